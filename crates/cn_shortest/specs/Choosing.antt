-- Roots with the least load.
use Rattle.std.specs.Prelude.{ℕ, ◌≡◌, ◌≤◌, List, Some, slice_get}
use Rattle.cn_meetings.specs.Sights.{sight_of}
use Rattle.cn_meetings.specs.Meeting.{Sight}
use Rattle.cn_tree_costs.specs.Least.{Load, LoadTable, load_of_root}
use Rattle.cn_tree_costs.specs.Sizes.{price}
use Rattle.cn_shortest.specs.Loads.{root_with}
use Rattle.cn_shortest.specs.declared.choosing.Choice.{Choice}
use Rattle.cn_shortest.specs.declared.roots.Roots.{Roots}
use Rattle.cn_shortest.specs.declared.roots.SightRoots.{SightRoots}
use Rattle.cn_shortest.specs.declared.sizes.Sizes.{Sizes}

-- the sizes give this load, within the steps
abbrev pub HasLoad : LoadTable → ℕ → ℕ → Sight → Sizes → Load → Type 0
HasLoad best n b sight s x =
    (price sight ≤ b) × (load_of_root best n b (root_with sight s) ≡ Some x)

-- those at this place do
abbrev pub IsPlace : LoadTable → ℕ → ℕ → Sight → List Sizes → Load → ℕ → Type 0
IsPlace best n b sight list x i = (s : Sizes) × (slice_get list i ≡ Some s)
    × HasLoad best n b sight s x

-- none of the list do
abbrev pub HasNone : LoadTable → ℕ → ℕ → Sight → List Sizes → Load → Type 0
HasNone best n b sight list x = (i : ℕ) (s : Sizes) → slice_get list i ≡ Some s
    → HasLoad best n b sight s x → ⊥

-- one of the roots, with this load
pub record IsChoice (best : LoadTable) (n b : ℕ) (roots : Roots) (x : Load) (choice : Choice) : Type 0
  where
    pub has : HasLoad best n b (sight_of choice.sight) choice.sizes x
    pub which : ℕ
    pub of_sight : SightRoots
    pub is_there : slice_get roots.by_sight.items which ≡ Some of_sight
    pub sight_is : of_sight.sight ≡ choice.sight
    pub place : ℕ
    pub is_at : slice_get of_sight.sizes.items place ≡ Some choice.sizes
