use Rattle.cn_views.proofs.SetLoops.{HasBelow}
use Rattle.cn_signs.specs.SignChecks.{IsEnd}
use Rattle.cn_signs.proofs.ends.ends_of.Given as goal

-- the ends so far
abbrev pub invariant-loop-state : goal.invariant-loop-state
invariant-loop-state l = HasBelow (IsEnd l.table l.operations l.rows l.set) l.state l.ends
