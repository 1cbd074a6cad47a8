use Rattle.cn_tree_check.proofs.RightLemmas.{wrong}
use Rattle.cn_tree_check.proofs.laws.faults_are_wrong.Goals as goal

pub returns : goal.returns
returns c = λ t certificate e fault right. wrong t certificate e fault right
