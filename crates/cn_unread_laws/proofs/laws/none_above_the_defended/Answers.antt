use Rattle.cn_unread_laws.proofs.Bounds.{above, none_at_all, none_from}
use Rattle.cn_unread_laws.proofs.laws.none_above_the_defended.Goals as goal

pub returns : goal.returns
returns g c = record { found = above; none = none_at_all; from = none_from }
