use Rattle.std.proofs.Common.{rules, ◌≡◌}
use Rattle.cn_proto.specs.PlanText.{operation_name_of}
use Rattle.cn_plan_text.proofs.promela.push_stand.Goals as goal

pub returns : goal.returns
returns c =
    let operation : c.operation_name-operation.result.now ≡ operation_name_of c.args.plan.now c.args.here.role = search rules in
    rw (← c.name-team.ensures, ← operation) (search rules)
