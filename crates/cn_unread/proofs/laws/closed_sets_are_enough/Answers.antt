use Rattle.cn_unread.proofs.Certified.{scenes_node, sets_signs}
use Rattle.cn_unread.proofs.laws.closed_sets_are_enough.Goals as goal

pub returns : goal.returns
returns c = record { scenes = scenes_node; states = sets_signs }
