use Rattle.std.proofs.Common.{length}
use Rattle.cn_unread_reasons.proofs.sight.+are_answers.Given as goal

abbrev pub decreases-are_answers : goal.decreases-are_answers
decreases-are_answers l = length l.ones.now
