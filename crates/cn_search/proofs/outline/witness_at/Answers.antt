use Rattle.std.proofs.Common.{ℕ, ◌≡◌, ◌∙◌, subst, sym, All, List, Option, IsSomeAnd, Result, Ok, Err, IfOk}
use Rattle.std.specs.declared.alloc.AllocError.{AllocError}
use Rattle.cn_table.specs.TypeTable.{TypeTable}
use Rattle.cn_choice.specs.Blocks.{Block}
use Rattle.cn_choice.specs.Discerning.{IsDiscerning, IsWitness}
use Rattle.cn_choice.specs.Live.{live_blocks, live_choices}
use Rattle.cn_choice.specs.Canonical.{Choice}
use Rattle.cn_finding.specs.Evidence.{IsFirstAmong, IsFirstWitness, NoneIsWitness}
use Rattle.cn_search.specs.Search.{HaveFirstOf, IsListedBlock, choices_of_all}
use Rattle.cn_search.proofs.FindingLemmas.{first_known, stocks_decide, witness_found}
use Rattle.cn_search.proofs.outline.witness_at.Goals as goal

-- what the search of the kept blocks answers
first_of : (t : TypeTable) (n : ℕ) → (NoneIsWitness t (live_choices t n) → ¬ IsDiscerning t n) → IsDiscerning t n → choices_of_all t (live_blocks t n) ≡ live_choices t n
    → (kept : List Block) → HaveFirstOf t (live_blocks t n) kept
    → (r : Result (Option Choice) AllocError) → IfOk r (IsFirstAmong (IsWitness t) (choices_of_all t kept)) → IfOk r (λ found. IsSomeAnd found (IsFirstWitness t (live_choices t n)))
first_of t n refuted is whole kept first (Err e) h = tt
first_of t n refuted is whole kept first (Ok found) h = witness_found t n refuted is found (subst (λ (l : List Choice). IsFirstAmong (IsWitness t) l found) whole (first found h))

pub returns-then-is_some : goal.returns-then-is_some
returns-then-is_some g c =
    let known = rw c.in-Some.is at c.requires.witness in
    rw c.in-Some.is (first_known c.args.table.now c.in-Some.n c.args.found.witness (sym c.is_some.ensures ∙ c.if-is_some.true) known)

pub blocks_with_starts-requires-clause-some : goal.blocks_with_starts-requires-clause-some
blocks_with_starts-requires-clause-some g c κs lives =
    let known = rw c.in-Some.is at c.requires.witness in
    stocks_decide c.args.table.now c.in-Some.n c.args.found.witness (sym c.is_some.ensures ∙ c.if-is_some.false) known

pub first_of_blocks-requires-after_bounds : goal.first_of_blocks-requires-after_bounds
first_of_blocks-requires-after_bounds g c κs lives = subst (λ (blocks : List Block). All (IsListedBlock c.args.table.now) blocks) (sym c.as_slice.ensures.value) c.in_ok-blocks.ensures.listed

pub returns : goal.returns
returns g c =
    let t = c.args.table.now in
    let n = c.in-Some.n in
    let found = rw c.in-Some.is at c.requires.number in
    let first = subst (λ (blocks : List Block). HaveFirstOf t (live_blocks t n) blocks) (sym c.as_slice.ensures.value) c.in_ok-blocks.ensures.first in
    rw c.in-Some.is (first_of t n (c.live_choices_decide.ensures.refuted t n) found.1 (c.block_list.ensures.cover t n) c.as_slice.result.now first c.first_of_blocks.result c.first_of_blocks.ensures)
