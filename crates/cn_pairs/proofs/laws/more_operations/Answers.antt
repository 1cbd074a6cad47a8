use Rattle.cn_pairs.proofs.MoreOperations as more
use Rattle.cn_pairs.proofs.laws.more_operations.Goals as goal

pub returns : goal.returns
returns c = more.more_operations
