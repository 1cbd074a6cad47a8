use Rattle.cn_pairs.proofs.OneNumber as one
use Rattle.cn_pairs.proofs.laws.one_number.Goals as goal

pub returns : goal.returns
returns c = one.one_number
