use Rattle.std.proofs.Common.{◌-◌}
use Rattle.cn_pairs.proofs.sets.+push_sets.Given as goal

abbrev pub decreases-push_sets : goal.decreases-push_sets
decreases-push_sets l = l.end - l.from
