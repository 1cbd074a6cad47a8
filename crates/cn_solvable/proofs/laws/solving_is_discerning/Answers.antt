use Rattle.cn_solvable.proofs.ConsensusNumbers.{exactly}
use Rattle.cn_solvable.proofs.laws.solving_is_discerning.Goals as goal

pub returns : goal.returns
returns c = exactly c.witness_is_enough.ensures c.consensus_needs_a_witness.ensures
