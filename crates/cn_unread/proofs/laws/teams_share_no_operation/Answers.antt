use Rattle.cn_unread.proofs.OtherOperations.{other_operations}
use Rattle.cn_unread.proofs.laws.teams_share_no_operation.Goals as goal

pub returns : goal.returns
returns c = λ t n choice many is w. other_operations t choice n many is w
