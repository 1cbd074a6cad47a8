use Rattle.cn_solvable.proofs.ConsensusNumbers.{unique}
use Rattle.cn_solvable.proofs.laws.unique_consensus_number.Goals as goal

pub returns : goal.returns
returns c = unique
