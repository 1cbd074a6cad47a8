use Rattle.std.proofs.Common.{ℕ, ◌≡◌, arith, length, subst}
use Rattle.cn_stocks.specs.declared.pair_sets.PairSet.{PairSet}
use Rattle.cn_stocks.specs.Each.{EachAt}
use Rattle.cn_collisions.specs.Exact.{ArePairsUpTo}
use Rattle.cn_stocks.proofs.EachLemmas.{each_none, each_push}
use Rattle.cn_collisions.proofs.word_sets.union_sets.Goals as goal

pub loop-start-init : goal.loop-start-init
loop-start-init c = each_none _ c.in_ok-sets.sets.items c.in_ok-sets.ensures.items

pub loop-start-preserved : goal.loop-start-preserved
loop-start-preserved c = each_push _ c.loop-start.sets.items c.push.new.self.items c.shown_union-set.result c.loop-start.start c.in_ok-push.ensures.items c.loop-start.invariant
    c.shown_union-set.ensures

pub returns : goal.returns
returns c =
    let s = c.args.setting.now in
    let set : ℕ → PairSet → Type 0 = λ start set. ArePairsUpTo s.table.now start s.stock.now.operations.items c.args.asked s.size set in
    let end : c.loop-start.start ≡ length s.table.now.states = omega (arith, c.states-end.ensures.number, c.loop-start-test.false, c.loop-start.auto.start-end) in
    subst (λ (k : ℕ). EachAt set k c.loop-start.sets.items) end c.loop-start.invariant
