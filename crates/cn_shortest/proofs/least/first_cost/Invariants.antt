use Rattle.cn_shortest.specs.Costs.{HaveNoLoad}
use Rattle.cn_shortest.proofs.least.first_cost.Given as goal

abbrev pub invariant-loop-steps : goal.invariant-loop-steps
invariant-loop-steps l = HaveNoLoad l.row.loads l.steps
