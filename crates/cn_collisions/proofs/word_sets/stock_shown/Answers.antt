use Rattle.std.proofs.Common.{Global, ℕ, List, ◌≡◌, ◌+◌, arith, subst, sym}
use Rattle.std.specs.declared.vec.Vec.{Vec}
use Rattle.cn_stocks.specs.declared.pair_sets.PairSet.{PairSet}
use Rattle.cn_stocks.specs.Each.{EachAt}
use Rattle.cn_collisions.specs.WordSets.{AreAllRows, AreShownRows}
use Rattle.cn_stocks.proofs.EachLemmas.{each_none, each_push}
use Rattle.cn_collisions.proofs.word_sets.stock_shown.Goals as goal

pub loop-count-init : goal.loop-count-init
loop-count-init c = each_none _ c.in_ok-by_count.by_count.items c.in_ok-by_count.ensures.items

pub loop-count-preserved : goal.loop-count-preserved
loop-count-preserved c = each_push _ c.loop-count.by_count.items c.push.new.self.items c.in_ok-rows.rows c.loop-count.count c.in_ok-push.ensures.items c.loop-count.invariant c.in_ok-rows.ensures

pub union_rows-requires : goal.union_rows-requires
union_rows-requires c =
    let s = c.args.setting.now in
    let items = s.stock.now.operations.items in
    let row : ℕ → Vec (Vec PairSet Global) Global → Type 0 = λ k rows. AreShownRows s.table.now items k rows.items in
    let end : c.loop-count.count ≡ s.size + 1 = omega (arith, c.loop-count-test.false, c.loop-count.auto.count-end) in
    subst (λ (rows : List (Vec (Vec PairSet Global) Global)). AreAllRows s.table.now s.size items rows) (sym c.deref.ensures.value)
    (subst (λ (k : ℕ). EachAt row k c.loop-count.by_count.items) end c.loop-count.invariant)

pub returns : goal.returns
returns c =
    let s = c.args.setting.now in
    let items = s.stock.now.operations.items in
    let row : ℕ → Vec (Vec PairSet Global) Global → Type 0 = λ k rows. AreShownRows s.table.now items k rows.items in
    let end : c.loop-count.count ≡ s.size + 1 = omega (arith, c.loop-count-test.false, c.loop-count.auto.count-end) in
    (subst (λ (k : ℕ). EachAt row k c.loop-count.by_count.items) end c.loop-count.invariant, c.in_ok-all.ensures)
