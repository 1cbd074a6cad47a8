use Rattle.cn_recover.specs.StatesApart.{AreLeft}
use Rattle.cn_recover.proofs.witness.add_short.Given as goal

abbrev pub invariant-loop-second : goal.invariant-loop-second
invariant-loop-second l = AreLeft l.table l.choice l.fn.team l.set
