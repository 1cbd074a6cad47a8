-- Examples of sizes: a meeting, and a team for each of its processes.
use Rattle.std.specs.Prelude.{ℕ, ◌≡◌, ◌<◌, ◌≤◌, List, cond, length, nat_eq, slice_index}
use Rattle.cn_choice.specs.declared.limits.TheConstants.{MOST_PROCESSES}
use Rattle.cn_divisions.specs.Divisions.{first, meeting_of}
use Rattle.cn_meetings.specs.Meeting.{Sight}
use Rattle.cn_meetings.specs.Witness.{IsTeamWitness}
use Rattle.cn_table.specs.TypeTable.{TypeTable}
use Rattle.cn_tree_costs.specs.Cost.{total}
use Rattle.cn_tree_costs.specs.Sizes.{team_size}
use Rattle.cn_shortest.specs.declared.examples.Example.{Example}

-- whoever is in team u moves to team v
abbrev pub moved : (ℕ → ℕ) → ℕ → ℕ → ℕ → ℕ
moved team u v p = cond (nat_eq (team p) u) v (team p)

-- how many of the first k teams have this size, of the first n processes
abbrev pub teams_of_size : ℕ → ℕ → (ℕ → ℕ) → ℕ → ℕ
teams_of_size n k team size = total (λ g. cond (nat_eq (team_size team n g) size) 1 0) k

-- a team has the number of its first process
pub record IsFirstAlike (teams : List ℕ) (p q : ℕ) : Type 0 where
  pub before : q ≤ p
  pub alike : slice_index teams q ≡ slice_index teams p
  pub first : (r : ℕ) → r < q → slice_index teams r ≡ slice_index teams p → ⊥

-- the teams of the first n processes are a witness of the type, with as many teams of each size
pub record IsExample (t : TypeTable) (sight : Sight) (n : ℕ) (counts : List ℕ) (e : Example) : Type 0
  where
    pub start : e.start.0 < length t.states
    pub operations : (p : ℕ) → p < n → slice_index e.operations p < length t.operations
    pub small : (p : ℕ) → p < n → slice_index e.teams p < MOST_PROCESSES
    pub witness : IsTeamWitness t (meeting_of e.start.0 e.operations sight) (first n)
        (λ p. slice_index e.teams p)
    pub counted : (size : ℕ) → 1 ≤ size → size ≤ MOST_PROCESSES → slice_index counts size
        ≡ teams_of_size n MOST_PROCESSES (λ p. slice_index e.teams p) size
