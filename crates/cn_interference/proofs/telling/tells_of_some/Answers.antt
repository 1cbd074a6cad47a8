use Rattle.std.proofs.Common.{◌<◌, ◌⊎◌, ℕ, length}
use borrow.Author.Count.{below_more}
use Rattle.cn_interference.specs.Interference.{TellsNothing}
use Rattle.cn_interference.proofs.telling.tells_of_some.Goals as goal

pub loop-second-preserved : goal.loop-second-preserved
loop-second-preserved c =
    below_more
    (λ g. (q : ℕ) → q < length c.args.table.now.states
    → TellsNothing c.args.table.now c.args.first.0 g q ⊎ TellsNothing c.args.table.now g c.args.first.0 q)
    c.loop-second.second c.loop-second.invariant (c.both_tell.ensures.no c.if-both_tell.false)
