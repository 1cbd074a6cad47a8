use Rattle.cn_json.specs.TreePlans.{node_members}
use Rattle.cn_json.proofs.Pieces.{piece}
use Rattle.cn_json.proofs.tree_plan.write_last_of_node.Goals as goal

pub returns : goal.returns
unfolding node_members
returns c =
    rw (← c.start_name-start.ensures, ← c.sight.ensures.value, ← c.reads-reads.ensures) (piece c.in_ok-member.ensures (piece c.in_ok-write_members.ensures
    (piece c.in_ok-member-2.ensures (piece c.in_ok-member-3.ensures (piece c.in_ok-write_teams.ensures c.end_object.ensures)))))
