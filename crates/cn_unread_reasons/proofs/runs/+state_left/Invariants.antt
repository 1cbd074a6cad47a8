use Rattle.std.proofs.Common.{length}
use Rattle.cn_unread_reasons.proofs.runs.+state_left.Given as goal

abbrev pub decreases-state_left : goal.decreases-state_left
decreases-state_left l = length l.steps.now
