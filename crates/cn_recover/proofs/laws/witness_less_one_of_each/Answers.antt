use Rattle.cn_recover.proofs.Gap.{gap}
use Rattle.cn_recover.proofs.laws.witness_less_one_of_each.Goals as goal

pub returns : goal.returns
returns c = gap
