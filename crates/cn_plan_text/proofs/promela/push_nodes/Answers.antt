use Rattle.std.proofs.Common.{rules, ◌≡◌, append_assoc}
use Rattle.cn_table.specs.Names.{name_at}
use Rattle.cn_plan_text.proofs.promela.push_nodes.Goals as goal

pub returns : goal.returns
returns c =
    let plan = c.args.plan.now in
    let name : c.name-name.result.now ≡ plan.table.name = search rules in
    let start : c.state_name-start.result.now ≡ name_at plan.table.states plan.choice.state = search rules in
    rw (← name, ← start, ← c.start-state.ensures.start, ← c.nodes-nodes.ensures.number) (search (rules, append_assoc))
