use Rattle.cn_crashes.proofs.RecoverableNumbers.{unique}
use Rattle.cn_crashes.proofs.laws.unique_recoverable_consensus_number.Goals as goal

pub returns : goal.returns
returns c = unique
