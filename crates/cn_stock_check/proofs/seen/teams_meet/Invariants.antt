use Rattle.std.proofs.Common.{ℕ, ◌<◌}
use Rattle.cn_stock_check.specs.Seen.{TeamsMeetAt}
use Rattle.cn_stock_check.proofs.seen.teams_meet.Given as goal

-- they do not meet at the operations so far
abbrev pub invariant-loop-asked : goal.invariant-loop-asked
invariant-loop-asked l = (o : ℕ) → o < l.asked → ¬ TeamsMeetAt l.table l.start.0 l.teams.a.now l.teams.b.now l.counts o
