use Rattle.cn_log.specs.Log.{state_of}
use Rattle.cn_log.specs.Opening.{setting_of}
use Rattle.cn_log.proofs.StateLemmas.Faults.{fault_or_may}
use Rattle.cn_log.proofs.laws.faults_decide.Goals as goal

pub returns : goal.returns
returns c = λ o events place event. fault_or_may (setting_of o) (state_of (setting_of o) events) place event
