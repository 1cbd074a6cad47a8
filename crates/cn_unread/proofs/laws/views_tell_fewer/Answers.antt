use Rattle.cn_unread.proofs.ViewWitnesses.{views_below}
use Rattle.cn_unread.proofs.laws.views_tell_fewer.Goals as goal

pub returns : goal.returns
returns c = views_below
