use Rattle.cn_unread_laws.proofs.UnreadNumbers.{from_u, to_u}
use Rattle.cn_unread_laws.proofs.laws.merged_types_solve.Goals as goal

pub returns : goal.returns
returns c = λ h t u n closed is. (to_u h t u closed is n, from_u h t u closed is n)
