use Rattle.cn_unread.proofs.Parts.{defended_below}
use Rattle.cn_unread.proofs.laws.fewer_are_defended.Goals as goal

pub returns : goal.returns
returns c = defended_below
