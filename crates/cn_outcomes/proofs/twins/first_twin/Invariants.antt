use Rattle.std.proofs.Common.{◌≤◌}
use Rattle.cn_outcomes.specs.Twins.{IsRun}
use Rattle.cn_outcomes.proofs.twins.first_twin.Given as goal

-- the processes from this one on up to process j are linked
abbrev pub invariant-loop-links : goal.invariant-loop-links
invariant-loop-links l = record {
  upto : l.first ≤ l.j;
  run : IsRun l.links l.first l.j;
}

abbrev pub decreases-loop-links : goal.decreases-loop-links
decreases-loop-links l = l.first
