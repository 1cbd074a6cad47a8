use Rattle.std.proofs.Common.{ℕ, ◌≡◌, ◌++◌, ◌∙◌, ap, arith, length, subst, sym, take, List, Option, Some, None, IfSome, Result, Ok, Err, IfOk}
use Rattle.std.specs.declared.alloc.AllocError.{AllocError}
use Rattle.std.proofs.Math.Seq.{take-length}
use Rattle.std.proofs.lemmas.Grind.{flat_map-append}
use Rattle.std.proofs.lemmas.List.Elements.{All-take}
use Rattle.cn_table.specs.TypeTable.{TypeTable}
use Rattle.cn_choice.specs.Blocks.{Block}
use Rattle.cn_choice.specs.Canonical.{Choice}
use Rattle.cn_choice.specs.Live.{live_choices, live_in}
use Rattle.cn_choice.specs.RawChoices.{RawChoice}
use Rattle.cn_finding.specs.Evidence.{IsFirst, IsFirstAmong}
use Rattle.cn_search.specs.Search.{IsListedBlock, choices_of_all}
use Rattle.cn_search.proofs.Batches.{ahead, all_listed}
use Rattle.cn_search.proofs.ListLemmas.{parts}
use Rattle.cn_search.proofs.kind.first_within.Goals as goal

-- the first witness of the first blocks is that of all
early_of : (t : TypeTable) (P : RawChoice → Type 0) (n : ℕ) (blocks front back : List Block) → blocks ≡ front ++ back → choices_of_all t blocks ≡ live_choices t n
    → (r : Result (Option Choice) AllocError) → IfOk r (IsFirstAmong P (choices_of_all t front)) → IfOk r (λ found. IfSome found (IsFirst P (live_choices t n)))
early_of t P n blocks front back both whole (Err e) h = tt
early_of t P n blocks front back both whole (Ok None) h = tt
early_of t P n blocks front back both whole (Ok (Some w)) h =
    let joined : choices_of_all t front ++ choices_of_all t back ≡ live_choices t n = sym (ap (choices_of_all t) both ∙ flat_map-append (live_in t) front back) ∙ whole in
    subst (λ (l : List Choice). IsFirst P l w) joined (ahead t P (choices_of_all t front) (choices_of_all t back) w h)

pub first_of_blocks-requires-after_bounds : goal.first_of_blocks-requires-after_bounds
first_of_blocks-requires-after_bounds g c =
    let t = c.args.table.now in
    let listed = all_listed t c.args.n c.requires.some c.requires.few (λ k few i. c.block_list.ensures.blocks t c.args.n k few i) c.deref.result.now (c.deref.ensures.value ∙ c.in_ok-blocks.ensures) in
    λ κs lives. rw c.split_at.ensures.front (All-take (IsListedBlock t) _ c.deref.result.now listed)

pub returns-clause-first : goal.returns-clause-first
returns-clause-first g c =
    let t = c.args.table.now in
    let n = c.args.n in
    let whole = ap (choices_of_all t) (c.deref.ensures.value ∙ c.in_ok-blocks.ensures) ∙ c.block_list.ensures.cover t n in
    early_of t (g.K.Kind.holds t) n c.deref.result.now c.split_at.result.0.now c.split_at.result.1.now
    (parts _ c.deref.result.now _ _ c.split_at.ensures.front c.split_at.ensures.back) whole c.first_of_blocks.result c.first_of_blocks.ensures

pub returns-clause-all : goal.returns-clause-all
returns-clause-all g c all =
    let t = c.args.table.now in
    let n = c.args.n in
    let blocks = c.deref.result.now in
    let each : c.count_of_blocks.result ≡ length blocks = omega (arith, c.count_of_blocks.ensures.all all, c.len.ensures, c.deref.ensures.len) in
    let first : c.split_at.result.0.now ≡ blocks = c.split_at.ensures.front ∙ (ap (λ k. take k blocks) each ∙ take-length blocks) in
    let whole = ap (choices_of_all t) (first ∙ (c.deref.ensures.value ∙ c.in_ok-blocks.ensures)) ∙ c.block_list.ensures.cover t n in
    subst (λ (choices : List Choice). IfOk c.first_of_blocks.result (IsFirstAmong (g.K.Kind.holds t) choices)) whole c.first_of_blocks.ensures
