use Rattle.cn_unread_check.proofs.OneMerging.{one_merging}
use Rattle.cn_unread_check.proofs.laws.states_merge_to_one_type.Goals as goal

pub returns : goal.returns
returns c = λ t u v table one other. one_merging t u v table one other
