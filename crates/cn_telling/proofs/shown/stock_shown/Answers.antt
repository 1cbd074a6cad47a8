use Rattle.std.proofs.Common.{◌<◌, ◌∙◌, [], arith, length, length-set, refl}
use Rattle.cn_stocks.specs.declared.pair_sets.PairSet.{PairSet}
use Rattle.cn_stocks.specs.Reach.{ArePairs}
use Rattle.cn_telling.proofs.ArrayLemmas.{set_done}
use Rattle.cn_telling.proofs.shown.stock_shown.Goals as goal

pub loop-start-init : goal.loop-start-init
loop-start-init c = record { long = refl; shown = λ start l. absurd (omega (arith, l)) }

pub loop-start-preserved : goal.loop-start-preserved
loop-start-preserved c =
    let a = c.args.asking.now in
    let i = c.loop-start.invariant in
    let k = c.loop-start.start in
    let pairs = c.loop-start.pairs in
    let set = c.shown_from.result in
    let none : PairSet = record { states = [] } in
    let room : k < length pairs = omega (arith, i.long, c.loop-start-test.true, c.states-start-end.ensures.range.1) in
    record {
      long = length-set pairs k set ∙ i.long;
      shown = set_done none (λ start s. ArePairs a.setting.table.now start a.setting.stock.now.operations.items a.asked s) pairs k set room c.shown_from.ensures i.shown;
    }

pub returns : goal.returns
returns c start below = c.loop-start.invariant.shown start (omega (arith, below, c.loop-start-test.false, c.states-start-end.ensures.number))
