-- The least costs, from the sizes of teams alone: for each number of processes, and for each bound
-- on their own steps, the fewest objects and then the fewest steps of all. New here.
use Rattle.std.specs.Prelude.{ℕ, ◌≡◌, ◌+◌, ◌-◌, ◌*◌, ◌<◌, ◌≤◌, ◌⊎◌, List, [], ◌∷◌, Option, Some}
use Rattle.std.specs.Prelude.{None, Bool, true, Contains, IsPermutation}
use Rattle.cn_table.specs.TypeTable.{TypeTable}
use Rattle.cn_meetings.specs.Meeting.{Sight}
use Rattle.cn_tree_costs.specs.Sizes.{HasSizes, IsDivision, price}

-- objects, and own steps of all processes together
pub record Load : Type 0 where
  pub nodes : ℕ
  pub sum : ℕ

-- the first is no more: the objects decide, then the steps
abbrev pub IsAtMost : Load → Load → Type 0
IsAtMost x y = (x.nodes < y.nodes) ⊎ ((x.nodes ≡ y.nodes) × (x.sum ≤ y.sum))

abbrev pub plus : Option Load → Option Load → Option Load
plus None y = None
plus (Some x) None = None
plus (Some x) (Some y) = Some (record { nodes = x.nodes + y.nodes; sum = x.sum + y.sum })

-- for n processes within b steps, a load, or none
abbrev pub LoadTable : Type 0
LoadTable = ℕ → ℕ → Option Load

-- the loads of teams of these sizes, together
abbrev pub load_of_teams : LoadTable → ℕ → List ℕ → Option Load
load_of_teams best b [] = Some (record { nodes = 0; sum = 0 })
load_of_teams best b (m ∷ sizes) = plus (best m b) (load_of_teams best b sizes)

-- a root: how its processes look, and the sizes of its teams
pub record Root : Type 0 where
  pub sight : Sight
  pub sizes : List ℕ

-- the load of a root of n processes, with those of its teams
abbrev pub load_of_root : LoadTable → ℕ → ℕ → Root → Option Load
load_of_root best n b root = plus (Some (record { nodes = 1; sum = n * price root.sight }))
    (load_of_teams best (b - price root.sight) root.sizes)

-- n processes may have this root
pub record IsRoot (t : TypeTable) (allowed : Sight → Bool) (n : ℕ) (root : Root) : Type 0 where
  pub is_allowed : allowed root.sight ≡ true
  pub witness : HasSizes t root.sight root.sizes
  pub division : IsDivision n root.sizes

-- a list of roots for each number of processes; it is enough, up to so many processes, if for each
-- root one of the list has the same sizes, in any order, and costs no more
pub record AreRoots (t : TypeTable) (allowed : Sight → Bool) (most : ℕ) (roots : ℕ → List Root)
    : Type 0 where
  pub sound : (n : ℕ) (root : Root) → Contains (roots n) root → IsRoot t allowed n root
  pub enough : (n : ℕ) (root : Root) → n ≤ most → IsRoot t allowed n root
      → (listed : Root) × Contains (roots n) listed × (price listed.sight ≤ price root.sight)
      × IsPermutation root.sizes listed.sizes

-- the table is right for up to so many processes and steps: a process alone has no node, and for
-- more processes the load is the least of those of the roots within the steps, if one has a load
pub record IsLoadTable (roots : ℕ → List Root) (most top : ℕ) (best : LoadTable) : Type 0 where
  pub alone : (b : ℕ) → b ≤ top → best 1 b ≡ Some (record { nodes = 0; sum = 0 })
  pub attained : (n b : ℕ) (x : Load) → 2 ≤ n → n ≤ most → b ≤ top → best n b ≡ Some x
      → (root : Root) × Contains (roots n) root × (price root.sight ≤ b)
      × (load_of_root best n b root ≡ Some x)
  pub least : (n b : ℕ) (y : Load) (root : Root) → 2 ≤ n → n ≤ most → b ≤ top
      → Contains (roots n) root → price root.sight ≤ b → load_of_root best n b root ≡ Some y
      → (x : Load) × (best n b ≡ Some x) × IsAtMost x y
