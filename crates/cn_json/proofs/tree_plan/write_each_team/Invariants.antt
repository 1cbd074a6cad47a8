use Rattle.std.proofs.Common.{◌≡◌, ◌++◌, map}
use Rattle.std.specs.List.{range_with_len}
use Rattle.cn_json.specs.Tokens.{each_value}
use Rattle.cn_json.specs.Values.{number_data}
use Rattle.cn_json.specs.TreePlans.{team_size_at}
use Rattle.cn_json.proofs.tree_plan.write_each_team.Given as goal

-- the sizes so far
abbrev pub invariant-loop-team : goal.invariant-loop-team
invariant-loop-team l = l.out ≡ l.initial.out ++ each_value (map (λ team. number_data (team_size_at l.plan l.node team)) (range_with_len 0 l.team))
