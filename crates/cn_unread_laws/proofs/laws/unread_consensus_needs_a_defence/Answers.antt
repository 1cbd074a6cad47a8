use Rattle.cn_unread_laws.proofs.Bounds.{is_defended_for}
use Rattle.cn_unread_laws.proofs.Defences.{some_defended}
use Rattle.cn_unread_laws.proofs.laws.unread_consensus_needs_a_defence.Goals as goal

pub returns : goal.returns
returns g c = record { several = some_defended; one = is_defended_for }
