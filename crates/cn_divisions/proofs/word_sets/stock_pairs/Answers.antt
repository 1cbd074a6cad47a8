use Rattle.std.proofs.Common.{Global, ℕ, ◌≡◌, arith, length, subst}
use Rattle.std.specs.declared.vec.Vec.{Vec}
use Rattle.cn_stocks.specs.declared.pair_sets.PairSet.{PairSet}
use Rattle.cn_stocks.specs.Reach.{ArePairsTo}
use Rattle.cn_stocks.specs.Each.{EachAt}
use Rattle.cn_stocks.proofs.EachLemmas.{each_none, each_push}
use Rattle.cn_divisions.proofs.word_sets.stock_pairs.Goals as goal

pub loop-asked-init : goal.loop-asked-init
loop-asked-init c = each_none _ c.in_ok-pairs.pairs.items c.in_ok-pairs.ensures.items

pub loop-asked-preserved : goal.loop-asked-preserved
loop-asked-preserved c = each_push _ c.loop-asked.pairs.items c.push.new.self.items c.in_ok-sets.sets c.loop-asked.asked c.in_ok-push.ensures.items c.loop-asked.invariant c.in_ok-sets.ensures

pub returns : goal.returns
returns c =
    let s = c.args.setting.now in
    let row : ℕ → Vec PairSet Global → Type 0 = λ o sets. ArePairsTo s.table.now s.stock.now.operations.items o sets.items in
    let end : c.loop-asked.asked ≡ length s.table.now.operations = omega (arith, c.operations-end.ensures.number, c.loop-asked-test.false, c.loop-asked.auto.asked-end) in
    subst (λ (k : ℕ). EachAt row k c.loop-asked.pairs.items) end c.loop-asked.invariant
