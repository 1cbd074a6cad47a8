use Rattle.cn_unread_laws.proofs.Defences.{some_choice}
use Rattle.cn_unread_laws.proofs.laws.consensus_needs_a_defence.Goals as goal

pub returns : goal.returns
returns g c = some_choice
