use Rattle.cn_unread.proofs.NoAnswers.{none_defended}
use Rattle.cn_unread.proofs.laws.answers_are_needed.Goals as goal

pub returns : goal.returns
returns c = λ t n closed nothing d. none_defended t closed nothing n d
