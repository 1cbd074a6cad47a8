use Rattle.std.proofs.Common.{◌≡◌, ◌-◌, ◌==◌, count_by}
use Rattle.std.specs.List.{range_with_len}
use Rattle.cn_trees.specs.Tree.{team_in}
use Rattle.cn_json.proofs.tree_plan.team_size.Given as goal

-- the processes of the team so far
abbrev pub invariant-loop-process : goal.invariant-loop-process
invariant-loop-process l = l.size ≡ count_by (λ p. team_in l.plan.teams l.node p == l.team) (range_with_len l.first (l.process - l.first))
