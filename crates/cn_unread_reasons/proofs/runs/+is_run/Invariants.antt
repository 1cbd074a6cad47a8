use Rattle.std.proofs.Common.{length}
use Rattle.cn_unread_reasons.proofs.runs.+is_run.Given as goal

abbrev pub decreases-is_run : goal.decreases-is_run
decreases-is_run l = length l.steps.now
