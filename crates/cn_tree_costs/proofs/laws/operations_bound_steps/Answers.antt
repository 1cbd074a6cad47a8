use Rattle.cn_tree_costs.proofs.FewTeams.{few_teams, least_steps}
use Rattle.cn_tree_costs.proofs.laws.operations_bound_steps.Goals as goal

pub returns-clause-teams : goal.returns-clause-teams
returns-clause-teams c = λ t sight n sizes has division three. few_teams t sight n sizes has division three

pub returns-clause-steps : goal.returns-clause-steps
returns-clause-steps c = λ t allowed n h T two more tree lt. least_steps t allowed two n h T more tree lt
