use Rattle.cn_consensus.proofs.Theorem.{some_discerns}
use Rattle.cn_consensus.proofs.laws.one_type_of_several.Goals as goal

pub returns : goal.returns
returns g c = some_discerns
