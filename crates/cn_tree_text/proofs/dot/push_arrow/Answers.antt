use Rattle.std.proofs.Common.{rules, ◌≡◌}
use Rattle.cn_tree_text.specs.Places.{operation_at}
use Rattle.cn_tree_text.proofs.dot.push_arrow.Goals as goal

pub returns : goal.returns
returns c =
    let operation : c.operation_name-operation.result.now ≡ operation_at c.args.plan.now c.args.here.node c.args.process = search rules in
    rw (← operation) (search rules)
