use Rattle.std.proofs.Common.{◌≡◌, ◌∙◌, ap, codes, rules}
use Rattle.cn_table.specs.Names.{name_at}
use Rattle.cn_proto.specs.Plan.{nodes_of, processes_of}
use Rattle.cn_json.specs.RecordingPlans.{recording_plan_data}
use Rattle.cn_json.specs.Tokens.{member_tokens}
use Rattle.cn_json.specs.Values.{number_data}
use Rattle.cn_json.proofs.Pieces.{piece, same}
use Rattle.cn_json.proofs.recording_plan.write_plan.Goals as goal

pub returns : goal.returns
unfolding recording_plan_data
returns c =
    let plan = c.args.plan.now.plan in
    let start : c.state_name.result.now ≡ name_at plan.table.states plan.choice.state = search rules in
    let name : c.name.result.now ≡ plan.table.name = search rules in
    let nodes = same c.in_ok-member-2.ensures (ap (λ n. member_tokens (codes "nodes") (number_data n)) (c.nodes.ensures.number ∙ ap nodes_of c.plan-two_teams.ensures)) in
    let processes = same c.in_ok-member-3.ensures (ap (λ n. member_tokens (codes "processes") (number_data n)) (c.processes.ensures.number ∙ ap processes_of c.plan-two_teams.ensures)) in
    rw (← start, ← name)
    (piece c.in_ok-begin_object.ensures (piece c.in_ok-write_judges.ensures (piece (rw c.is_lone.ensures at c.in_ok-member.ensures)
    (piece nodes (piece c.in_ok-write_paths.ensures
    (piece processes (piece c.in_ok-write_roles.ensures
    (rw c.most_life_steps-steps.ensures at c.last_members.ensures))))))))
