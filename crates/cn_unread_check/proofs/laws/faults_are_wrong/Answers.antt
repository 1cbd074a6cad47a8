use Rattle.cn_unread_check.proofs.Verdicts.{fault_is_wrong}
use Rattle.cn_unread_check.proofs.laws.faults_are_wrong.Goals as goal

pub returns : goal.returns
returns c = λ t certificate e table first. fault_is_wrong t certificate e table first
