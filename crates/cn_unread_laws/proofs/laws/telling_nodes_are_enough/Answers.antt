use Rattle.cn_unread_laws.proofs.Judging.{judged, judged_node}
use Rattle.cn_unread_laws.proofs.laws.telling_nodes_are_enough.Goals as goal

pub returns : goal.returns
returns c = λ t a b node n closed aa bb is. c.nodes_are_enough.ensures t a b (judged t a b node is aa) n
    closed aa bb (judged_node t a b node is aa)
