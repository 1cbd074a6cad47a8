use Rattle.std.proofs.Common.{◌≡◌, rules}
use Rattle.cn_json.specs.TreePlans.{tree_plan_data}
use Rattle.cn_json.proofs.Pieces.{piece}
use Rattle.cn_json.proofs.tree_plan.write_tree_plan.Goals as goal

pub returns : goal.returns
unfolding tree_plan_data
returns c =
    let name : c.name.result.now ≡ c.args.plan.now.table.name = search rules in
    let last = rw (c.processes-processes.ensures.number, c.cost-cost.ensures.steps, c.cost-cost.ensures.sum) at c.last_members.ensures in
    rw (← name) (piece c.in_ok-begin_object.ensures (piece c.in_ok-write_nodes.ensures
    (piece (rw c.nodes.ensures.number at c.in_ok-member.ensures) (piece c.in_ok-write_paths.ensures last))))
