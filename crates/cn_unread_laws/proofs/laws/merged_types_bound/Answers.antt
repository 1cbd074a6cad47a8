use Rattle.cn_unread_laws.proofs.MergedTypes.{merged_bound}
use Rattle.cn_unread_laws.proofs.laws.merged_types_bound.Goals as goal

pub returns : goal.returns
returns g c = merged_bound
