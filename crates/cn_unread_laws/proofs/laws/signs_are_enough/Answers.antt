use Rattle.std.proofs.Common.{arith}
use Rattle.cn_unread_laws.proofs.SignNodes.{is_node, sign_node}
use Rattle.cn_unread_laws.proofs.laws.signs_are_enough.Goals as goal

pub returns : goal.returns
returns c = λ t w closed is n some. c.nodes_are_enough.ensures t 1 n (sign_node t w is n) n closed
    (omega arith) some (is_node t w is n) some (omega arith)
