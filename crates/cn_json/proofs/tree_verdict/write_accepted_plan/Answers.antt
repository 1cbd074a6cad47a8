use Rattle.cn_json.specs.TreeVerdict.{accepted_plan_data}
use Rattle.cn_json.proofs.tree_verdict.write_accepted_plan.Goals as goal

pub returns : goal.returns
unfolding accepted_plan_data
returns c = rw (c.nodes.ensures.number, c.processes.ensures.number, c.cost.ensures.steps) at c.object.ensures
