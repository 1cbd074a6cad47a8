use Rattle.std.proofs.Common.{ℕ, ◌+◌, ◌<◌, ◌≡◌, ◌↔◌, [], List, arith, get_or, length, slice_index, subst}
use Rattle.std.specs.Prelude.{IsBitSet}
use Rattle.std.proofs.lemmas.List.{get_or_default}
use Rattle.cn_outcomes.proofs.LastProcess.{zero_has_none}
use Rattle.cn_collisions.specs.Exact.{AreEndsAfter, EndsAfter}
use Rattle.cn_stocks.proofs.EachLemmas.{each_read}
use Rattle.cn_collisions.proofs.Gathering.{below_first, below_more}
use Rattle.cn_collisions.proofs.word_sets.ends_ever.Goals as goal

pub loop-row-init : goal.loop-row-init
loop-row-init c q =
    let s = c.args.setting.now in
    below_first (λ k. EndsAfter s.table.now c.args.start s.stock.now.operations.items k q) (IsBitSet 0 q) (zero_has_none q)

pub loop-row-preserved : goal.loop-row-preserved
loop-row-preserved c q =
    let s = c.args.setting.now in
    let items = s.stock.now.operations.items in
    let rows = c.args.by_count.now in
    let i = c.loop-row.row-index in
    let row : List ℕ = get_or rows i [] in
    let inside : i < length rows = c.loop-row-test.true in
    let here = each_read (λ k row. AreEndsAfter s.table.now items k (length s.table.now.states) row) rows (s.size + 1) i row c.requires.ends
    (omega (arith, inside, c.requires.ends.0)) (get_or_default rows i [] row inside) c.args.start c.requires.start q in
    below_more (λ k. EndsAfter s.table.now c.args.start items k q) i (IsBitSet c.loop-row.set q) (IsBitSet (slice_index row c.args.start) q) (IsBitSet c.union-set.result q)
    (c.loop-row.invariant q) (c.union-set.ensures q) here

pub returns : goal.returns
returns c q =
    let s = c.args.setting.now in
    let end : c.loop-row.row-index ≡ s.size + 1 = omega (arith, c.requires.ends.0, c.loop-row-test.false, c.loop-row.auto.row-index-end) in
    subst (λ (n : ℕ). IsBitSet c.loop-row.set q ↔ ((k : ℕ) × (k < n) × EndsAfter s.table.now c.args.start s.stock.now.operations.items k q)) end (c.loop-row.invariant q)
