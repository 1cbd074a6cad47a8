use Rattle.cn_solvable.proofs.ConsensusNumbers.{by_a_round}
use Rattle.cn_solvable.proofs.laws.rounds_are_enough.Goals as goal

pub returns : goal.returns
returns g c = by_a_round c.witness_is_enough.ensures c.consensus_needs_a_witness.ensures
