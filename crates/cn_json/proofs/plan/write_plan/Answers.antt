use Rattle.std.proofs.Common.{◌≡◌, rules}
use Rattle.cn_table.specs.Names.{name_at}
use Rattle.cn_json.specs.Plans.{plan_data}
use Rattle.cn_json.proofs.Pieces.{piece}
use Rattle.cn_json.proofs.plan.write_plan.Goals as goal

pub returns : goal.returns
unfolding plan_data
returns c =
    let plan = c.args.plan.now in
    let start : c.state_name.result.now ≡ name_at plan.table.states plan.choice.state = search rules in
    let name : c.name.result.now ≡ plan.table.name = search rules in
    rw (← start, ← name)
    (piece c.in_ok-begin_object.ensures (piece (rw c.nodes.ensures.number at c.in_ok-member.ensures) (piece c.in_ok-write_paths.ensures
    (piece (rw c.processes.ensures.number at c.in_ok-member-2.ensures) (piece c.in_ok-write_roles.ensures c.last_members.ensures)))))
