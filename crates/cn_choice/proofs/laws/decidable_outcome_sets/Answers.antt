use Rattle.cn_choice.proofs.WitnessLemmas.Collisions.{in_outcome_set_or_not}
use Rattle.cn_choice.proofs.laws.decidable_outcome_sets.Goals as goal

pub returns : goal.returns
returns c = in_outcome_set_or_not
