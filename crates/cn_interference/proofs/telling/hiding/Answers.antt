use Rattle.std.proofs.Common.{◌<◌, ◌⊎◌, ℕ, length}
use borrow.Author.Count.{below_more}
use Rattle.cn_interference.specs.Interference.{TellsNothing}
use Rattle.cn_interference.proofs.telling.hiding.Goals as goal

pub loop-first-preserved : goal.loop-first-preserved
loop-first-preserved c =
    below_more
    (λ f. (g : ℕ) → g < length c.args.table.now.operations
    → (q : ℕ) → q < length c.args.table.now.states
    → TellsNothing c.args.table.now f g q ⊎ TellsNothing c.args.table.now g f q)
    c.loop-first.first c.loop-first.invariant (c.tells_of_some.ensures.no c.if-tells_of_some.false)
