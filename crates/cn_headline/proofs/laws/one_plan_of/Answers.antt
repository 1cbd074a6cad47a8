use Rattle.cn_headline.proofs.OneOutput as output
use Rattle.cn_headline.proofs.laws.one_plan_of.Goals as goal

pub returns : goal.returns
returns c = output.one_plan_of c.unique_plan.ensures
