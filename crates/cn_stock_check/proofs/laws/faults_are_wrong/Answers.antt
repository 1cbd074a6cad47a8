use Rattle.cn_stock_check.proofs.Firsts.{wrong}
use Rattle.cn_stock_check.proofs.laws.faults_are_wrong.Goals as goal

pub returns : goal.returns
returns c = λ t certificate e has. wrong t certificate e has
