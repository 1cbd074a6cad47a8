use Rattle.std.proofs.Common.{◌≡◌, rules}
use Rattle.cn_tree_text.specs.Places.{operation_at}
use Rattle.cn_json.specs.TreePlans.{member_data}
use Rattle.cn_json.proofs.Pieces.{piece}
use Rattle.cn_json.proofs.tree_plan.write_member.Goals as goal

pub returns : goal.returns
unfolding member_data
returns c =
    let operation : c.operation_name-operation.result.now ≡ operation_at c.args.plan.now c.args.node c.args.process = search rules in
    rw (← operation, ← c.team-team.ensures.number) (piece c.in_ok-begin_object.ensures (piece c.in_ok-write_judges.ensures c.last_members.ensures))
