-- Operations of a stock that are joined: what comes of the one first and of the other first cannot
-- be told apart.
use Rattle.std.specs.Prelude.{ℕ, ◌≡◌, ◌≢◌, ◌↔◌, ◌<◌, ◌≤◌, List, length, slice_index}
use Rattle.cn_table.specs.TypeTable.{TypeTable}
use Rattle.cn_table.specs.declared.limits.TheConstants.{MOST_OPERATIONS}
use Rattle.cn_meetings.specs.Meeting.{Sight, sees}
use Rattle.cn_stocks.specs.Words.{Shows, times}

-- some word within the stock that begins with f has o at a place where o gets the response, and
-- leaves a state of which the sight sees this
abbrev pub Tells : TypeTable → Sight → ℕ → List ℕ → ℕ → ℕ → ℕ → ℕ → Type 0
Tells t sight start stock f o response saw =
    (state : ℕ) × Shows t start stock f o response state × (sees t sight state ≡ saw)

-- words that begin with f and words that begin with g tell some operation the same
pub record AreJoined (t : TypeTable) (sight : Sight) (start : ℕ) (stock : List ℕ)
    (f g : ℕ) : Type 0 where
  pub to : ℕ
  pub response : ℕ
  pub saw : ℕ
  pub told_f : Tells t sight start stock f to response saw
  pub told_g : Tells t sight start stock g to response saw

-- in one component: joined, or by way of others
pub data AreConnected (t : TypeTable) (sight : Sight) (start : ℕ) (stock : List ℕ) : ℕ → ℕ
    → Type 0 where
  Itself : (f : ℕ) → AreConnected t sight start stock f f
  ByWayOf : (f g h : ℕ) → AreJoined t sight start stock f g → AreConnected t sight start stock g h
      → AreConnected t sight start stock f h

-- some operations of the stock are in different components
abbrev pub IsSplit : TypeTable → Sight → ℕ → List ℕ → Type 0
IsSplit t sight start stock = (f : ℕ) × (g : ℕ) × (1 ≤ times f stock) × (1 ≤ times g stock)
    × ¬ AreConnected t sight start stock f g

-- the components of these operations are the teams
abbrev pub AreComponents : TypeTable → Sight → ℕ → List ℕ → ℕ → List ℕ → Type 0
AreComponents t sight start stock operations team = (f g : ℕ) → f < operations → g < operations
    → (slice_index team f ≡ slice_index team g) ↔ AreConnected t sight start stock f g

-- the teams where that of g becomes that of f
abbrev pub IsMerged : List ℕ → ℕ → ℕ → List ℕ → Type 0
IsMerged old f g new = (length new ≡ length old) × ((x : ℕ) → x < length old
    → (slice_index old x ≡ slice_index old g → slice_index new x ≡ slice_index old f)
    × (slice_index old x ≢ slice_index old g → slice_index new x ≡ slice_index old x))

-- only connected operations are in one team, and those below k that are joined are
pub record AreComponentsSoFar (t : TypeTable) (sight : Sight) (start : ℕ) (stock : List ℕ) (k : ℕ)
    (team : List ℕ) : Type 0 where
  pub long : length team ≡ MOST_OPERATIONS
  pub small : (f : ℕ) → f < MOST_OPERATIONS → slice_index team f < MOST_OPERATIONS
  pub connected : (f g : ℕ) → f < MOST_OPERATIONS → g < MOST_OPERATIONS
      → slice_index team f ≡ slice_index team g → AreConnected t sight start stock f g
  pub together : (f g : ℕ) → f < g → g < k → AreJoined t sight start stock f g
      → slice_index team f ≡ slice_index team g
