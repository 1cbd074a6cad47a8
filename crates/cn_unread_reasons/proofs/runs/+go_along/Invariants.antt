use Rattle.std.proofs.Common.{length}
use Rattle.cn_unread_reasons.proofs.runs.+go_along.Given as goal

abbrev pub decreases-go_along : goal.decreases-go_along
decreases-go_along l = length l.ones.now
