use Rattle.std.proofs.Common.{◌≡◌, ◌+◌, ◌*◌, ◌++◌, ℕ, List, replicate}
use Rattle.cn_tree_costs.specs.Least.{LoadTable, load_of_teams}
use Rattle.cn_shortest.specs.Loads.{IsBelow, load_of}
use Rattle.cn_shortest.proofs.loads.with_teams.Given as goal

abbrev pub invariant-loop-team : goal.invariant-loop-team
invariant-loop-team l = record {
  same : (best : LoadTable) (b size : ℕ) (sizes : List ℕ) → best size b ≡ load_of l.fn.team → load_of_teams best b sizes ≡ load_of l.fn.rest
      → load_of_teams best b (replicate l._team size ++ sizes) ≡ load_of l.load;
  below : (nodes sum : ℕ) → IsBelow nodes sum l.fn.rest → IsBelow (nodes + 7 * l._team) (sum + 224 * l._team) l.load;
}
