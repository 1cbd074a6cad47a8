use Rattle.cn_solvable.proofs.ConsensusNumbers as numbers
use Rattle.cn_solvable.proofs.laws.number_is_the_consensus_number.Goals as goal

pub returns : goal.returns
returns g c = record {
  found = numbers.found c.witness_is_enough.ensures c.none_above_the_number.ensures.found;
  none = numbers.without c.none_above_the_number.ensures.none;
  at_least = numbers.at_least c.witness_is_enough.ensures;
}
