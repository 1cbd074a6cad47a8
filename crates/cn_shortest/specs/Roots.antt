-- Sizes that two teams have as one, and lists of sizes.
use Rattle.std.specs.Prelude.{ℕ, zero, suc, ◌≡◌, ◌+◌, ◌<◌, ◌≤◌, ◌⊎◌, ◌++◌, [], ◌∷◌, All, List, Some, length, slice_get, slice_index}
use Rattle.cn_choice.specs.declared.limits.TheConstants.{MOST_PROCESSES}
use Rattle.cn_divisions.specs.Divisions as finest
use Rattle.cn_divisions.specs.declared.divisions.Division.{Division}
use Rattle.cn_divisions.specs.declared.search.Divisions.{Divisions}
use Rattle.cn_divisions.specs.declared.search.SightDivisions.{SightDivisions}
use Rattle.cn_meetings.specs.Meeting.{Sight}
use Rattle.cn_stocks.specs.Each.{EachAt}
use Rattle.cn_table.specs.TypeTable.{TypeTable}
use Rattle.cn_tree_costs.specs.Sizes.{HasSizes, IsDivision}
use Rattle.cn_shortest.specs.Examples.{IsExample}
use Rattle.cn_shortest.specs.Sizes.{AreCounts, AreMerged, AreOf, HasBoth, sizes_of}
use Rattle.cn_shortest.specs.declared.roots.Roots.{Roots}
use Rattle.cn_shortest.specs.declared.roots.SightRoots.{SightRoots}
use Rattle.cn_shortest.specs.declared.sizes.Sizes.{Sizes}

-- as many teams of each size
abbrev pub AreSame : List ℕ → List ℕ → Type 0
AreSame a b = (x : ℕ) → x ≤ MOST_PROCESSES → slice_index a x ≡ slice_index b x

-- one of the list has these very counts
abbrev pub HasCounts : List Sizes → List ℕ → Type 0
HasCounts list counts = (i : ℕ) × (s : Sizes) × (slice_get list i ≡ Some s) × (s.counts ≡ counts)

-- one of the list has counts that are the same
abbrev pub Has : List Sizes → List ℕ → Type 0
Has list counts = (i : ℕ) × (s : Sizes) × (slice_get list i ≡ Some s) × AreSame s.counts counts

-- nothing of the old list is lost
abbrev pub IsExtended : List Sizes → List Sizes → Type 0
IsExtended old new = (more : List Sizes) × (new ≡ old ++ more)

-- some witness has these sizes, of two or more teams of n processes, and the example is one
pub record IsFound (t : TypeTable) (sight : Sight) (n : ℕ) (s : Sizes) : Type 0 where
  pub of_n : AreOf n s.counts
  pub has : HasSizes t sight (sizes_of s.counts)
  pub example : IsExample t sight n s.counts s.example

abbrev pub AreFound : TypeTable → Sight → ℕ → List Sizes → Type 0
AreFound t sight n list = All (IsFound t sight n) list

-- the list has what comes of merging teams of the two sizes, if not all teams become one
abbrev pub HasMerged : ℕ → List ℕ → List Sizes → ℕ → ℕ → Type 0
HasMerged n counts list a b = (new : List ℕ) → 1 ≤ a → 1 ≤ b → HasBoth counts a b → a + b < n
    → AreMerged counts a b new → Has list new

-- and of merging any two teams
abbrev pub HasAllMerged : ℕ → List ℕ → List Sizes → Type 0
HasAllMerged n counts list = (a b : ℕ) → HasMerged n counts list a b

-- at most so many merges, one after the other, lead from the old counts to the new ones
abbrev pub AreWithin : ℕ → ℕ → List ℕ → List ℕ → Type 0
AreWithin n zero old new = AreSame old new
AreWithin n (suc r) old new = AreWithin n r old new
    ⊎ ((mid : List ℕ) × (a : ℕ) × (b : ℕ) × AreWithin n r old mid × (1 ≤ a) × (1 ≤ b)
    × HasBoth mid a b × (a + b < n) × AreMerged mid a b new)

-- a division of n processes
pub record HasSizesOf (n : ℕ) (d : Division) : Type 0 where
  pub division : IsDivision n d.sizes.items
  pub processes : length d.operations.items ≡ n
  pub members : length d.teams.items ≡ n

-- the list has what so many merges make of the sizes of each division
abbrev pub HasAllWithin : ℕ → ℕ → List Division → List Sizes → Type 0
HasAllWithin n r divisions list = (i : ℕ) (d : Division) (old new : List ℕ)
    → slice_get divisions i ≡ Some d → AreCounts d.sizes.items old → AreWithin n r old new
    → Has list new

-- the list is as before, or the sizes stand behind it
abbrev pub IsAdded : List Sizes → Sizes → List Sizes → Type 0
IsAdded old s new = (new ≡ old) ⊎ (new ≡ old ++ s ∷ [])

abbrev pub AreAll : ℕ → List Sizes → Type 0
AreAll n list = All (λ s. AreOf n s.counts) list

-- the sizes of witnesses stay so
abbrev pub StayFound : ℕ → List Sizes → List Sizes → Type 0
StayFound n old new = (t : TypeTable) (sight : Sight) → AreFound t sight n old
    → AreFound t sight n new

-- each of the divisions has these sizes
abbrev pub HaveSizes : ℕ → List Division → Type 0
HaveSizes n divisions = (i : ℕ) (d : Division) → slice_get divisions i ≡ Some d
    → HasSizesOf n d

-- each is a finest division, which is a witness
abbrev pub AreWitnesses : TypeTable → Sight → ℕ → List Division → Type 0
AreWitnesses t sight n divisions = (i : ℕ) (d : Division) → slice_get divisions i ≡ Some d
    → HasSizes t sight d.sizes.items × finest.IsDivision t sight n d

-- the sizes of these divisions and of all coarser ones
pub record AreSizesOf (n : ℕ) (divisions : List Division) (list : List Sizes) : Type 0 where
  pub of_n : AreAll n list
  pub found : (t : TypeTable) (sight : Sight) → AreWitnesses t sight n divisions
      → AreFound t sight n list
  pub all : HasAllWithin n MOST_PROCESSES divisions list

-- the roots by the sight of these divisions
pub record AreRootsBy (n : ℕ) (divisions : SightDivisions) (roots : SightRoots) : Type 0 where
  pub sight_is : roots.sight ≡ divisions.sight
  pub sizes : AreSizesOf n divisions.list.items roots.sizes.items

-- the roots by each of the sights
abbrev pub AreRootsFrom : ℕ → Divisions → Roots → Type 0
AreRootsFrom n divisions roots = EachAt (λ i r. (d : SightDivisions)
    → slice_get divisions.by_sight.items i ≡ Some d → AreRootsBy n d r)
    (length divisions.by_sight.items) roots.by_sight.items
