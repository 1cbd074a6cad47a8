use Rattle.cn_unread.proofs.Exchange.{canonical_defended}
use Rattle.cn_unread.proofs.laws.canonical_choices_are_enough.Goals as goal

pub returns : goal.returns
returns c = canonical_defended c.coverage.ensures
