use Rattle.cn_recover.specs.StatesApart.{AreLeft}
use Rattle.cn_recover.proofs.witness.short_states.Given as goal

abbrev pub invariant-loop-first : goal.invariant-loop-first
invariant-loop-first l = AreLeft l.table l.choice l.team l.set
