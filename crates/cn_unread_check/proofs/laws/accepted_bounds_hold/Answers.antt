use Rattle.cn_unread_check.proofs.BoundLemmas.{bounds_hold}
use Rattle.cn_unread_check.proofs.laws.accepted_bounds_hold.Goals as goal

pub returns : goal.returns
returns c = λ t certificate right. bounds_hold c.shown_bounds_hold.ensures t certificate right
