-- Loads by the number of processes and the bound on their steps.
use Rattle.std.specs.Prelude.{ℕ, zero, suc, ◌≡◌, ◌+◌, ◌-◌, ◌*◌, ◌≤◌, ◌⊎◌, All, Contains, IfSome, List, [], flat_map, map, Option, Some, None, slice_get}
use Rattle.cn_meetings.specs.Sights.{sight_of}
use Rattle.cn_meetings.specs.Meeting.{Sight}
use Rattle.cn_tree_costs.specs.Least as least
use Rattle.cn_tree_costs.specs.Least.{IsAtMost, LoadTable, Root, load_of_root}
use Rattle.cn_tree_costs.specs.Sizes.{price}
use Rattle.cn_shortest.specs.Sizes.{AreOf, sizes_of}
use Rattle.cn_shortest.specs.declared.loads.Load.{Load}
use Rattle.cn_shortest.specs.declared.loads.Row.{Row}
use Rattle.cn_shortest.specs.declared.roots.Roots.{Roots}
use Rattle.cn_shortest.specs.declared.roots.SightRoots.{SightRoots}
use Rattle.cn_shortest.specs.declared.sizes.Sizes.{Sizes}

abbrev pub load_of : Option Load → Option least.Load
load_of None = None
load_of (Some x) = Some (record { nodes = x.nodes; sum = x.sum })

-- the load in a row, or none
abbrev pub load_in : Option (Option Load) → Option least.Load
load_in None = None
load_in (Some x) = load_of x

abbrev pub load_at : Option Row → ℕ → Option least.Load
load_at None b = None
load_at (Some row) b = load_in (slice_get row.loads b)

-- the rows are those of 1 process, of 2 and so on
abbrev pub table_of : List Row → LoadTable
table_of rows n b = load_at (slice_get rows (n - 1)) b

-- few objects and steps
abbrev pub IsBelow : ℕ → ℕ → Option Load → Type 0
IsBelow nodes sum load = IfSome load (λ x. (x.nodes ≤ nodes) × (x.sum ≤ sum))

-- there is a load if there is the other one, and it is no more
abbrev pub IsNoMore : Option Load → Option Load → Type 0
IsNoMore x y = (b : least.Load) → load_of y ≡ Some b
    → (a : least.Load) × (load_of x ≡ Some a) × IsAtMost a b

-- the less one of the two
pub record IsLessOf (x y result : Option Load) : Type 0 where
  pub either : (result ≡ x) ⊎ (result ≡ y)
  pub first : IsNoMore result x
  pub second : IsNoMore result y

-- a root where the processes look in this way
abbrev pub root_with : Sight → Sizes → Root
root_with sight sizes = record { sight = sight; sizes = sizes_of sizes.counts }

abbrev pub roots_with : Sight → List Sizes → List Root
roots_with sight list = map (root_with sight) list

abbrev pub roots_by : SightRoots → List Root
roots_by roots = roots_with (sight_of roots.sight) roots.sizes.items

-- the roots of one number of processes
abbrev pub roots_in : Roots → List Root
roots_in roots = flat_map roots_by roots.by_sight.items

abbrev pub roots_at : Option Roots → List Root
roots_at None = []
roots_at (Some roots) = roots_in roots

-- those of 2 processes stand first
abbrev pub all_roots : List Roots → ℕ → List Root
all_roots list zero = []
all_roots list (suc zero) = []
all_roots list (suc (suc n)) = roots_at (slice_get list n)

-- a process alone has no node; of more, each object is met by two or more
abbrev pub IsSmallTable : LoadTable → Type 0
IsSmallTable best = (n b : ℕ) (x : least.Load) → 1 ≤ n → best n b ≡ Some x
    → (x.nodes + 1 ≤ n) × (x.sum ≤ 32 * x.nodes)

-- the load is that of one of these roots of n processes, within the steps
abbrev pub IsLoadOf : LoadTable → ℕ → ℕ → List Root → least.Load → Type 0
IsLoadOf best n b roots x = (root : Root) × Contains roots root × (price root.sight ≤ b)
    × (load_of_root best n b root ≡ Some x)

-- no root has less
abbrev pub IsLeastOf : LoadTable → ℕ → ℕ → List Root → Option Load → Type 0
IsLeastOf best n b roots load = (y : least.Load) → IsLoadOf best n b roots y
    → (x : least.Load) × (load_of load ≡ Some x) × IsAtMost x y

-- the least load of the roots, if one has a load
pub record IsEntry (best : LoadTable) (n b : ℕ) (roots : List Root) (load : Option Load) : Type 0
  where
    pub attained : (x : least.Load) → load_of load ≡ Some x → IsLoadOf best n b roots x
    pub least_is : IsLeastOf best n b roots load

abbrev pub AreAllOf : ℕ → Roots → Type 0
AreAllOf n roots = (i : ℕ) (r : SightRoots) → slice_get roots.by_sight.items i ≡ Some r
    → All (λ s. AreOf n s.counts) r.sizes.items
