use Rattle.std.proofs.Common.{◌≡◌}
use Rattle.std.specs.Prelude.{slice_index}
use Rattle.cn_tree_costs.specs.Sizes.{team_size}
use Rattle.cn_shortest.proofs.examples.team_size.Given as goal

abbrev pub invariant-loop-process : goal.invariant-loop-process
invariant-loop-process l = l.size ≡ team_size (λ p. slice_index l.teams p) l.process l.fn.team
