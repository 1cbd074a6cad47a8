use Rattle.std.proofs.Common.{ℕ, ◌≡◌, ◌<◌, ◌+◌, length, Some, slice_get}
use Rattle.cn_meetings.specs.Sights.{sight_of}
use Rattle.cn_tree_costs.specs.Least as least
use Rattle.cn_tree_costs.specs.Least.{IsAtMost, load_of_root}
use Rattle.cn_shortest.specs.Loads.{IsLoadOf, load_of, root_with, roots_with, table_of}
use Rattle.cn_shortest.specs.declared.sizes.Sizes.{Sizes}
use Rattle.cn_shortest.proofs.loads.least_of.Given as goal

-- the least load of the roots so far
abbrev pub invariant-loop-place : goal.invariant-loop-place
invariant-loop-place l = record {
  attained : (x : least.Load) → load_of l.load ≡ Some x → IsLoadOf (table_of l.rows) (length l.rows + 1) l.budget (roots_with (sight_of l.fn.sight) l.list) x;
  least_is : (i : ℕ) (s : Sizes) (y : least.Load) → i < l.place → slice_get l.list i ≡ Some s → load_of_root (table_of l.rows) (length l.rows + 1) l.budget (root_with (sight_of l.fn.sight) s) ≡ Some y
      → (x : least.Load) × (load_of l.load ≡ Some x) × IsAtMost x y;
}
