use Rattle.std.proofs.Common.{◌≤◌, ◌<◌, ◌-◌}
use Rattle.std.specs.Prelude.{IsBitSet}
use Rattle.cn_outcomes.specs.Twins.{IsRun}
use Rattle.cn_outcomes.proofs.twins.last_twin.Given as goal

-- the processes behind process j up to this one are linked, and this one is in the subset
abbrev pub invariant-loop-followed : goal.invariant-loop-followed
invariant-loop-followed l = record {
  from : l.j ≤ l.last;
  range : l.last < 16;
  member : IsBitSet l.fn.subset l.last;
  run : IsRun l.fn.links l.j l.last;
}

abbrev pub decreases-loop-followed : goal.decreases-loop-followed
decreases-loop-followed l = 16 - l.last
