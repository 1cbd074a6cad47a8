-- The sizes of the teams of a witness. New here.
use Rattle.std.specs.Prelude.{ℕ, ◌≡◌, ◌-◌, ◌<◌, ◌≤◌, List, [], ◌∷◌, length, sum, All, suc, nat_lt}
use Rattle.std.specs.Prelude.{if◌then◌else◌, ◌+◌, map, nat_eq, zero}
use Rattle.std.specs.List.{range_with_len}
use Rattle.cn_table.specs.TypeTable.{TypeTable}
use Rattle.cn_meetings.specs.Meeting.{IsSightOf, Meeting, Sight, looks}
use Rattle.cn_meetings.specs.Witness.{IsTeamWitness}
use Rattle.cn_trees.specs.Tree.{Teams, members}
use Rattle.cn_trees.specs.Tree.Teams.{Alone, Last, Meet}

-- the team of process p, if teams of these sizes are numbered one after the other, and so are their
-- processes
abbrev pub block : List ℕ → ℕ → ℕ
block [] p = 0
block (m ∷ sizes) p = if nat_lt p m then 0 else suc (block sizes (p - m))

-- the sizes of these teams
abbrev pub sizes_of : Teams → List ℕ
sizes_of Last = []
sizes_of (Alone r) = 1 ∷ sizes_of r
sizes_of (Meet s r) = members s ∷ sizes_of r

-- how many of the first n processes are in team g
abbrev pub team_size : (ℕ → ℕ) → ℕ → ℕ → ℕ
team_size team zero g = 0
team_size team (suc n) g = team_size team n g + (if nat_eq (team n) g then 1 else 0)

-- the sizes of the first k teams of the first n processes
abbrev pub team_sizes : (ℕ → ℕ) → ℕ → ℕ → List ℕ
team_sizes team n k = map (team_size team n) (range_with_len 0 k)

-- some meeting of the type, at which all processes look in this way, has a witness with teams of
-- these sizes
pub record HasSizes (t : TypeTable) (sight : Sight) (sizes : List ℕ) : Type 0 where
  pub meeting : Meeting
  pub start : meeting.start < length t.states
  pub operations : (p : ℕ) → p < sum sizes → meeting.operation p < length t.operations
  pub sights : (p : ℕ) → p < sum sizes → meeting.sight p ≡ sight
  pub known : IsSightOf t sight
  pub witness : IsTeamWitness t meeting (λ p. nat_lt p (sum sizes)) (block sizes)

-- two or more teams of n processes, each with a process
pub record IsDivision (n : ℕ) (sizes : List ℕ) : Type 0 where
  pub whole : sum sizes ≡ n
  pub several : 2 ≤ length sizes
  pub inhabited : All (λ m. 1 ≤ m) sizes

-- the steps of a process at a node, by how it looks
abbrev pub price : Sight → ℕ
price sight = if looks sight then 4 else 3
