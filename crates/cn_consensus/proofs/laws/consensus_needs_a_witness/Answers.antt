use Rattle.cn_consensus.proofs.Theorem.{consensus_discerns}
use Rattle.cn_consensus.proofs.laws.consensus_needs_a_witness.Goals as goal

pub returns : goal.returns
returns g c = consensus_discerns
