use Rattle.std.proofs.Common.{ℕ, ◌≢◌, ◌<◌}
use Rattle.std.specs.Prelude.{slice_index}
use Rattle.cn_tree_costs.specs.Sizes.{team_size}
use Rattle.cn_shortest.proofs.examples.team_of_size.Given as goal

abbrev pub invariant-loop-team : goal.invariant-loop-team
invariant-loop-team l = (g : ℕ) → g < l.team → g ≢ l.fn.but → team_size (λ p. slice_index l.teams p) l.fn.n g ≢ l.fn.size
