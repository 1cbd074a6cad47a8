-- Divisions of the first processes of a meeting, all of which look alike.
use Rattle.std.specs.Prelude.{ℕ, ◌≡◌, ◌≢◌, ◌↔◌, ◌<◌, Bool, List, All, Some, length, map}
use Rattle.std.specs.Prelude.{nat_lt, slice_get, slice_index}
use Rattle.std.specs.List.{range_with_len}
use Rattle.cn_table.specs.TypeTable.{TypeTable}
use Rattle.cn_meetings.specs.Division as division
use Rattle.cn_meetings.specs.Meeting.{Meeting, Sight}
use Rattle.cn_stocks.specs.Each.{EachAt}
use Rattle.cn_divisions.specs.declared.divisions.Division.{Division}
use Rattle.cn_divisions.specs.declared.search.Divisions.{Divisions}
use Rattle.cn_divisions.specs.declared.search.SightDivisions.{SightDivisions}
use Rattle.cn_meetings.specs.declared.sight.Sight as sights
use Rattle.cn_meetings.specs.Sights.{sight_of}
use Rattle.cn_divisions.specs.Sizes.{AreSizes}

-- the first n processes
abbrev pub first : ℕ → ℕ → Bool
first n p = nat_lt p n

-- their operations
abbrev pub operations_of : Meeting → ℕ → List ℕ
operations_of M n = map M.operation (range_with_len 0 n)

-- each of the first n processes has this sight
abbrev pub HaveSight : Meeting → ℕ → Sight → Type 0
HaveSight M n sight = (p : ℕ) → p < n → M.sight p ≡ sight

-- each process does the operation at its place
abbrev pub meeting_of : ℕ → List ℕ → Sight → Meeting
meeting_of start operations sight = record {
  start = start;
  operation = λ p. slice_index operations p;
  sight = λ p. sight;
}

-- the teams of the first n processes are the components
abbrev pub IsFinestOf : TypeTable → Meeting → ℕ → (ℕ → ℕ) → Type 0
IsFinestOf t M n team = (p q : ℕ) → p < n → q < n
    → (team p ≡ team q) ↔ division.AreConnected t M (first n) p q

-- the start state and the operations of the first n processes are those of the type, and they have
-- this sight
pub record IsMeetingOf (t : TypeTable) (sight : Sight) (n : ℕ) (M : Meeting) : Type 0 where
  pub start : M.start < length t.states
  pub operations : (p : ℕ) → p < n → M.operation p < length t.operations
  pub looks : HaveSight M n sight

-- the team of each of the first n processes
abbrev pub teams_of : (ℕ → ℕ) → ℕ → List ℕ
teams_of team n = map team (range_with_len 0 n)

-- some of them are in different teams
abbrev pub AreParted : ℕ → (ℕ → ℕ) → Type 0
AreParted n team = (p : ℕ) × (q : ℕ) × (p < n) × (q < n) × (team p ≢ team q)

-- the meeting and the teams of a division
abbrev pub meeting_in : Sight → Division → Meeting
meeting_in sight d = meeting_of d.start.0 d.operations.items sight

abbrev pub team_in : Division → ℕ → ℕ
team_in d p = slice_index d.teams.items p

-- a finest division of n processes into two teams or more, with its sizes
pub record IsDivision (t : TypeTable) (sight : Sight) (n : ℕ) (d : Division) : Type 0 where
  pub meeting : IsMeetingOf t sight n (meeting_in sight d)
  pub processes : length d.operations.items ≡ n
  pub members : length d.teams.items ≡ n
  pub finest : IsFinestOf t (meeting_in sight d) n (team_in d)
  pub parted : AreParted n (team_in d)
  pub sizes : AreSizes d.teams.items d.sizes.items

-- one of the divisions has the sizes of each finest division of the meeting into two teams or more
abbrev pub HaveSizesOf : TypeTable → ℕ → Meeting → List Division → Type 0
HaveSizesOf t n M divisions = (team : ℕ → ℕ) → IsFinestOf t M n team → AreParted n team
    → (i : ℕ) × (d : Division) × (slice_get divisions i ≡ Some d)
    × AreSizes (teams_of team n) d.sizes.items

-- no two of the divisions have the same sizes
abbrev pub DifferInSizes : List Division → Type 0
DifferInSizes divisions = (i j : ℕ) (d e : Division) → slice_get divisions i ≡ Some d
    → slice_get divisions j ≡ Some e → d.sizes.items ≡ e.sizes.items → i ≡ j

-- each is a division, no two have the same sizes, and those of each division of a meeting of the
-- type are among theirs
pub record AreAllSizes (t : TypeTable) (sight : Sight) (n : ℕ) (divisions : List Division) : Type 0
  where
    pub are : All (IsDivision t sight n) divisions
    pub once : DifferInSizes divisions
    pub all : (M : Meeting) → IsMeetingOf t sight n M → HaveSizesOf t n M divisions

-- the divisions of n processes that all have the sight at this place of the list
pub record AreOfSight (t : TypeTable) (list : List sights.Sight) (n i : ℕ) (d : SightDivisions)
    : Type 0 where
  pub sight_is : slice_get list i ≡ Some d.sight
  pub all : AreAllSizes t (sight_of d.sight) n d.list.items

-- the divisions of n processes by each of these sights, in their order
abbrev pub AreDivisions : TypeTable → List sights.Sight → ℕ → Divisions → Type 0
AreDivisions t list n d = EachAt (AreOfSight t list n) (length list) d.by_sight.items
