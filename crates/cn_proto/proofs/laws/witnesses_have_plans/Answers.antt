use Rattle.cn_proto.proofs.WitnessPlans.{witness_plan}
use Rattle.cn_proto.proofs.laws.witnesses_have_plans.Goals as goal

pub returns : goal.returns
returns c = witness_plan c.decidable_outcome_sets.ensures
