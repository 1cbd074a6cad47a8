use Rattle.cn_unread.proofs.ViewDefences.{views_defended}
use Rattle.cn_unread.proofs.laws.views_are_defended.Goals as goal

pub returns : goal.returns
returns c = views_defended
