-- The roots and the loads of each number of processes, and the root that was chosen.
use Rattle.std.specs.Prelude.{ℕ, ◌≡◌, ◌+◌, ◌<◌, ◌≤◌, Bool, true, List, Some, length, slice_get}
use Rattle.cn_choice.specs.declared.limits.TheConstants.{MOST_PROCESSES}
use Rattle.cn_meetings.specs.Sights.{sight_of}
use Rattle.cn_meetings.specs.Meeting.{IsSightOf, Sight}
use Rattle.cn_table.specs.TypeTable.{TypeTable}
use Rattle.cn_tree_costs.specs.Least.{IsLoadTable, load_of_root}
use Rattle.cn_tree_costs.specs.Sizes.{price}
use Rattle.cn_shortest.specs.Examples.{IsExample}
use Rattle.cn_shortest.specs.Loads.{AreAllOf, IsSmallTable, all_roots, root_with, table_of}
use Rattle.cn_shortest.specs.Roots.{AreFound}
use Rattle.cn_shortest.specs.Sizes.{AreOf}
use Rattle.cn_shortest.specs.declared.choosing.Choice.{Choice}
use Rattle.cn_shortest.specs.declared.loads.TheConstants.{MOST_STEPS}
use Rattle.cn_shortest.specs.declared.roots.Roots.{Roots}
use Rattle.cn_shortest.specs.declared.roots.SightRoots.{SightRoots}
use Rattle.cn_shortest.specs.declared.search.Search.{Search}

-- the rows are those of 1 process, of 2 and so on, and the roots those of 2 processes, of 3 and so on
pub record IsSearch (s : Search) : Type 0 where
  pub few : length s.roots.items < MOST_PROCESSES
  pub long : length s.rows.items ≡ length s.roots.items + 1
  pub table : IsLoadTable (all_roots s.roots.items) (length s.roots.items + 1) MOST_STEPS
      (table_of s.rows.items)
  pub small : IsSmallTable (table_of s.rows.items)
  pub sizes : (i : ℕ) (r : Roots) → slice_get s.roots.items i ≡ Some r → AreAllOf (i + 2) r

-- roots of n processes by an allowed sight, the sizes of which have examples of the type
pub record HasExamples (t : TypeTable) (allowed : Sight → Bool) (n : ℕ) (r : SightRoots) : Type 0
  where
    pub is_allowed : allowed (sight_of r.sight) ≡ true
    pub found : AreFound t (sight_of r.sight) n r.sizes.items

-- and so all these roots
abbrev pub HaveExamples : TypeTable → (Sight → Bool) → List Roots → Type 0
HaveExamples t allowed roots = (i j : ℕ) (r : Roots) (x : SightRoots) → slice_get roots i ≡ Some r
    → slice_get r.by_sight.items j ≡ Some x → HasExamples t allowed (i + 2) x

-- a root with the load of n processes within b steps, by an allowed sight, with an example of its
-- sizes
pub record IsRootOf (s : Search) (n b : ℕ) (choice : Choice) : Type 0 where
  pub paid : price (sight_of choice.sight) ≤ b
  pub load : load_of_root (table_of s.rows.items) n b
      (root_with (sight_of choice.sight) choice.sizes) ≡ table_of s.rows.items n b
  pub of_n : AreOf n choice.sizes.counts
  pub is_allowed : (t : TypeTable) (allowed : Sight → Bool) → HaveExamples t allowed s.roots.items
      → allowed (sight_of choice.sight) ≡ true
  pub of_type : (t : TypeTable) (allowed : Sight → Bool) → HaveExamples t allowed s.roots.items
      → IsSightOf t (sight_of choice.sight)
  pub example : (t : TypeTable) (allowed : Sight → Bool) → HaveExamples t allowed s.roots.items
      → IsExample t (sight_of choice.sight) n choice.sizes.counts choice.sizes.example
