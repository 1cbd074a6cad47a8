use Rattle.cn_pairs.proofs.Between.{between}
use Rattle.cn_pairs.proofs.laws.sets_between.Goals as goal

pub returns : goal.returns
returns c = between
