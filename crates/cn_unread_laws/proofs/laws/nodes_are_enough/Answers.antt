use Rattle.cn_unread_laws.proofs.Towers.{node_solves}
use Rattle.cn_unread_laws.proofs.laws.nodes_are_enough.Goals as goal

pub returns : goal.returns
returns c = λ t a b node n closed aa bb is one few. node_solves t a b node is n aa bb closed one few
