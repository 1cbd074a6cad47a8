use Rattle.std.proofs.Common.{length}
use Rattle.cn_unread_reasons.proofs.runs.+are_same.Given as goal

abbrev pub decreases-are_same : goal.decreases-are_same
decreases-are_same l = length l.ones.now
