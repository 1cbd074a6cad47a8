use Rattle.std.proofs.Common.{◌+◌, ◌*◌, length}
use Rattle.cn_service.proofs.workers.+answers.Given as goal

abbrev pub decreases-answer_each : goal.decreases-answer_each
decreases-answer_each g l = 3 * length l.seats.items

abbrev pub decreases-answer_beside-scope : goal.decreases-answer_beside-scope
decreases-answer_beside-scope g l = 3 * length l.seats.items + 1

abbrev pub decreases-answer_beside : goal.decreases-answer_beside
decreases-answer_beside g l = 3 * length l.seats.items + 2
