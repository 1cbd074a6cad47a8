use Rattle.cn_trees.proofs.Agreeing.{reach_consensus}
use Rattle.cn_trees.proofs.laws.plan_trees_agree.Goals as goal

pub returns : goal.returns
returns g c = λ T n plan few inputs schedule all. reach_consensus T n plan few inputs schedule all
