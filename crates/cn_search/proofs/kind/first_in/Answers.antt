use Rattle.std.proofs.Common.{◌≡◌, ◌++◌, ◌∷◌, ◌∙◌, List, [], ap, append-nil, append_assoc, drop, subst, sym, true≢false}
use Rattle.std.proofs.lemmas.List.Elements.{All-push}
use Rattle.cn_choice.specs.Canonical.{Choice, raw_choice_of}
use Rattle.cn_choice.specs.Blocks.{Block}
use Rattle.cn_choice.specs.RawChoices.{IsRawChoice}
use Rattle.cn_finding.specs.Evidence.{NoneIs}
use Rattle.cn_search.proofs.ListLemmas.{Contains-between}
use Rattle.cn_search.proofs.kind.first_in.Goals as goal

pub new-choices-requires-clause-is_block : goal.new-choices-requires-clause-is_block
new-choices-requires-clause-is_block g c = (c.block_list.ensures.blocks c.args.table.now c.args.block.now.n c.args.block.now c.requires.few c.requires.listed).0

pub is_of_kind-requires-clause-fits : goal.is_of_kind-requires-clause-fits
is_of_kind-requires-clause-fits g c =
    let d = c.in-Some.choice.now in
    let left = c.in-Some.ensures.some in
    subst (λ n. IsRawChoice c.args.table.now n (raw_choice_of d)) (sym (ap (λ (k : Block). k.n) c.block.view_is))
    (c.block_list.ensures.fit c.args.table.now c.args.block.now.n c.args.block.now d c.requires.listed
    (Contains-between _ c.loop-choice.invariant.0 left.0 d (rw left.1 at c.loop-choice.invariant.1)))

pub returns-then-is_of_kind : goal.returns-then-is_of_kind
returns-then-is_of_kind g c =
    let left = c.in-Some.ensures.some in
    rw c.copy.ensures (record {
      before = c.loop-choice.invariant.0;
      after = left.0;
      listed = sym (rw left.1 at c.loop-choice.invariant.1);
      witness = c.is_of_kind.ensures.0 c.if-is_of_kind.true;
      earlier = c.loop-choice.invariant.2;
    })

pub loop-choice-preserved : goal.loop-choice-preserved
loop-choice-preserved g c =
    let d = c.in-Some.choice.now in
    let left = c.in-Some.ensures.some in
    let passed = c.loop-choice.invariant.0 in
    let next : c.advance.new.self ≡ left.0 = c.advance.ensures ∙ ap (λ (cs : List Choice). drop 1 cs) left.1 in (
      passed ++ d ∷ [],
      append_assoc passed (d ∷ []) c.advance.new.self ∙ (ap (λ (cs : List Choice). passed ++ d ∷ cs) next ∙ rw left.1 at c.loop-choice.invariant.1),
      All-push (λ (e : Choice). ¬ g.K.Kind.holds c.args.table.now (raw_choice_of e)) passed d c.loop-choice.invariant.2
          (λ w. true≢false (sym (c.is_of_kind.ensures.1 w) ∙ c.if-is_of_kind.false)),
    )

pub returns : goal.returns
returns g c =
    let passed = c.loop-choice.invariant.0 in
    let all = sym (append-nil passed) ∙ (ap (λ (cs : List Choice). passed ++ cs) (sym c.in_default.ensures.none) ∙ c.loop-choice.invariant.1) in
    subst (NoneIs (g.K.Kind.holds c.args.table.now)) all c.loop-choice.invariant.2
