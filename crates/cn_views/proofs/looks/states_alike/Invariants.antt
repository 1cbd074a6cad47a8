use Rattle.cn_unread.specs.Collects.{LookAlike}
use Rattle.cn_views.proofs.SetLoops.{HasBelow}
use Rattle.cn_views.proofs.looks.states_alike.Given as goal

-- the states so far that look alike
abbrev pub invariant-loop-other : goal.invariant-loop-other
invariant-loop-other l = HasBelow (LookAlike l.table l.operations l.state.0) l.other l.alike
