use Rattle.std.proofs.Common.{ℕ, List, ◌≡◌, ◌+◌, arith, length, subst, sym}
use Rattle.cn_stocks.specs.Each.{EachAt}
use Rattle.cn_collisions.specs.Exact.{AreEndsAfter}
use Rattle.cn_collisions.specs.WordSets.{AreEndRows}
use Rattle.cn_stocks.proofs.EachLemmas.{each_none, each_push}
use Rattle.cn_collisions.proofs.word_sets.stock_ends.Goals as goal

pub loop-count-init : goal.loop-count-init
loop-count-init c = each_none _ c.in_ok-by_count.by_count.items c.in_ok-by_count.ensures.items

pub loop-count-preserved : goal.loop-count-preserved
loop-count-preserved c = each_push _ c.loop-count.by_count.items c.push.new.self.items c.ends_row-row.result c.loop-count.count c.in_ok-push.ensures.items c.loop-count.invariant c.ends_row-row.ensures

pub ends_union-all-requires : goal.ends_union-all-requires
ends_union-all-requires c =
    let s = c.args.setting.now in
    let items = s.stock.now.operations.items in
    let row : ℕ → List ℕ → Type 0 = λ k row. AreEndsAfter s.table.now items k (length s.table.now.states) row in
    let end : c.loop-count.count ≡ s.size + 1 = omega (arith, c.loop-count-test.false, c.loop-count.auto.count-end) in
    subst (λ (rows : List (List ℕ)). AreEndRows s.table.now s.size items rows) (sym c.deref.ensures.value) (subst (λ (k : ℕ). EachAt row k c.loop-count.by_count.items) end c.loop-count.invariant)

pub returns : goal.returns
returns c =
    let s = c.args.setting.now in
    let items = s.stock.now.operations.items in
    let row : ℕ → List ℕ → Type 0 = λ k row. AreEndsAfter s.table.now items k (length s.table.now.states) row in
    let end : c.loop-count.count ≡ s.size + 1 = omega (arith, c.loop-count-test.false, c.loop-count.auto.count-end) in
    (subst (λ (k : ℕ). EachAt row k c.loop-count.by_count.items) end c.loop-count.invariant, c.ends_union-all.ensures)
