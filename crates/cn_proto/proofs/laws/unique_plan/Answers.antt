use Rattle.cn_proto.proofs.OnePlan.{unique_plan}
use Rattle.cn_proto.proofs.laws.unique_plan.Goals as goal

pub returns : goal.returns
returns c = unique_plan
