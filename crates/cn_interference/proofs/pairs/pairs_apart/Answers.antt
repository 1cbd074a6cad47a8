use Rattle.std.proofs.Common.{arith}
use Rattle.cn_interference.proofs.PairLists.{pairs_whole}
use Rattle.cn_interference.proofs.pairs.pairs_apart.Goals as goal

pub returns : goal.returns
returns c =
    pairs_whole c.args.table.now c.loop-first.first c.loop-first.pairs.items
    (omega (arith, c.loop-first-test.false, c.operations-first-end.ensures.number)) c.loop-first.invariant
