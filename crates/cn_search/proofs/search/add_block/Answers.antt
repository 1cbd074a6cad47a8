use Rattle.std.proofs.Common.{◌≡◌, ◌∙◌, List, [], ◌∷◌, ◌++◌, ap, append_assoc, drop, subst, sym}
use Rattle.std.proofs.lemmas.List.Elements.{All-contains}
use Rattle.cn_choice.specs.Canonical.{Choice, raw_choice_of}
use Rattle.cn_choice.specs.Blocks.{Block}
use Rattle.cn_choice.specs.Discerning.{IsWitness}
use Rattle.cn_choice.specs.RawChoices.{IsRawChoice}
use Rattle.cn_collisions.specs.Examination.{collision_with}
use Rattle.cn_finding.specs.Evidence.{AreRecordedFor, IsRecordedFor}
use Rattle.cn_choice.specs.Live.{live_in}
use Rattle.cn_search.proofs.ListLemmas.{AllZip-append_one, Contains-between}
use Rattle.cn_search.proofs.search.add_block.Goals as goal

pub new-choices-requires-clause-is_block : goal.new-choices-requires-clause-is_block
new-choices-requires-clause-is_block g c = (c.block_list.ensures.blocks c.args.table.now c.args.block.now.n c.args.block.now c.requires.block.block.few c.requires.block.block.listed).0

pub orders_for-requires-clause-fits : goal.orders_for-requires-clause-fits
orders_for-requires-clause-fits g c =
    let d = c.in-Some.choice.now in
    let left = c.in-Some.ensures.some in
    subst (λ n. IsRawChoice c.args.table.now n (raw_choice_of d)) (sym (ap (λ (k : Block). k.n) c.block.view_is))
    (c.block_list.ensures.fit c.args.table.now c.args.block.now.n c.args.block.now d c.requires.block.block.listed
    (Contains-between _ c.loop-choice.invariant.0 left.0 d (rw left.1 at c.loop-choice.invariant.1)))

pub orders_for-requires-clause-no_witness : goal.orders_for-requires-clause-no_witness
orders_for-requires-clause-no_witness g c =
    let d = c.in-Some.choice.now in
    let left = c.in-Some.ensures.some in
    All-contains (λ (d : Choice). ¬ IsWitness c.args.table.now (raw_choice_of d)) (live_in c.args.table.now c.args.block.now) d c.requires.block.none
    (Contains-between _ c.loop-choice.invariant.0 left.0 d (rw left.1 at c.loop-choice.invariant.1))

pub loop-choice-preserved : goal.loop-choice-preserved
loop-choice-preserved g c =
    let d = c.in-Some.choice.now in
    let left = c.in-Some.ensures.some in
    let passed = c.loop-choice.invariant.0 in
    let next : c.advance.new.self ≡ left.0 = c.advance.ensures ∙ ap (λ (cs : List Choice). drop 1 cs) left.1 in (
      passed ++ d ∷ [],
      append_assoc passed (d ∷ []) c.advance.new.self ∙ (ap (λ (cs : List Choice). passed ++ d ∷ cs) next ∙ rw left.1 at c.loop-choice.invariant.1),
      λ before k.
          (let so_far = c.loop-choice.invariant.2 before k in
          let t = c.args.table.now in
          let added = collision_with d c.orders_for.result in
          record {
            kept = so_far.kept ++ added ∷ [];
            keeps_these = c.in_ok-add.ensures so_far.kept so_far.keeps_these;
            recorded =
                subst (λ (l : List Choice). AreRecordedFor t l (so_far.kept ++ added ∷ [])) (append_assoc before passed (d ∷ []))
                (AllZip-append_one (IsRecordedFor t) (before ++ passed) so_far.kept _ _ so_far.recorded c.orders_for.ensures);
          }),
    )
