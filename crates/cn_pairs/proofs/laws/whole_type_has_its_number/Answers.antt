use Rattle.cn_pairs.proofs.WholeSets.{whole_set}
use Rattle.cn_pairs.proofs.laws.whole_type_has_its_number.Goals as goal

pub returns : goal.returns
returns c = whole_set
