use Rattle.cn_tree_plans.proofs.Known.{judged_known}
use Rattle.cn_tree_plans.proofs.laws.judgements_are_of_the_type.Goals as goal

pub returns : goal.returns
returns c = λ v p known comes. judged_known c.args.plan.now c.tree_plans_are_right.ensures.plan v p known comes
