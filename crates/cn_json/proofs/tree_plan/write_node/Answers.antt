use Rattle.cn_json.specs.TreePlans.{node_data}
use Rattle.cn_json.proofs.Pieces.{piece}
use Rattle.cn_json.proofs.tree_plan.write_node.Goals as goal

pub returns : goal.returns
unfolding node_data
returns c =
    piece c.in_ok-begin_object.ensures (piece (rw c.first-first.ensures at c.in_ok-member.ensures) c.write_look.ensures)
