-- Plan trees: at each node teams meet, each of one process alone or of the processes that have met
-- at a node below.
-- Source: Ruppert, Determining consensus numbers, 2000: the tournament, whose nodes have two teams
-- and one witness. Nodes with more teams and with witnesses of their own are new here.
use Rattle.std.specs.Prelude.{ℕ, zero, suc, ◌+◌, ◌-◌, ◌<◌, max, List, [], ◌∷◌, ◌++◌, length, Bool}
use Rattle.std.specs.Prelude.{false, ◌&&◌, ◌||◌, nat_lt, nat_eq, if◌then◌else◌, slice_index_or}
use Rattle.cn_table.specs.TypeTable.{TypeTable}
use Rattle.cn_meetings.specs.Meeting.{IsSightOf, Meeting}
use Rattle.cn_meetings.specs.Witness.{Has, IsTeamWitness, JudgesRight}

-- the teams of a node, one after the other
pub data Teams : Type 0 where
  -- no more teams
  Last : Teams
  -- a team of one process, and further teams
  Alone : Teams → Teams
  -- a team of the processes that have met at a node of the first teams, and further teams
  Meet : Teams → Teams → Teams

-- the number of processes
abbrev pub members : Teams → ℕ
members Last = 0
members (Alone r) = 1 + members r
members (Meet s r) = members s + members r

-- the number of nodes below
abbrev pub nodes_in : Teams → ℕ
nodes_in Last = 0
nodes_in (Alone r) = nodes_in r
nodes_in (Meet s r) = 1 + nodes_in s + nodes_in r

-- the levels: the greatest number of nodes on the way of a process, with this one
abbrev pub levels : Teams → ℕ
levels Last = 0
levels (Alone r) = max 1 (levels r)
levels (Meet s r) = max (1 + levels s) (levels r)

-- the place of a process at a node of its path: the number of the node, and its team there
pub record Place : Type 0 where
  pub node : ℕ
  pub team : ℕ

-- the path up to this node of process p of these teams, the first of which has this number; the
-- nodes below have numbers from next on
abbrev pub climb : Teams → ℕ → ℕ → ℕ → ℕ → List Place
climb Last node team next p = []
climb (Alone r) node team next zero = record { node = node; team = team } ∷ []
climb (Alone r) node team next (suc p) = climb r node (team + 1) next p
climb (Meet s r) node team next p =
    if nat_lt p (members s)
    then climb s next 0 (next + 1) p ++ record { node = node; team = team } ∷ []
    else climb r node (team + 1) (next + 1 + nodes_in s) (p - members s)

-- the path of process p: all processes meet at the root, node 0
abbrev pub path_in : Teams → ℕ → List Place
path_in s p = climb s 0 0 1 p

-- the team at a node of a process with this path
abbrev pub team_on : List Place → ℕ → ℕ
team_on [] node = 0
team_on (x ∷ path) node = if nat_eq node x.node then x.team else team_on path node

abbrev pub team_in : Teams → ℕ → ℕ → ℕ
team_in s node p = team_on (path_in s p) node

abbrev pub passes : List Place → ℕ → Bool
passes [] node = false
passes (x ∷ path) node = nat_eq node x.node || passes path node

-- process p comes to the node
abbrev pub comes_to : Teams → ℕ → ℕ → Bool
comes_to s node p = nat_lt p (members s) && passes (path_in s p) node

-- a type; the teams of the root; and for each node its meeting, and the judgements of its processes
pub record PlanTree : Type 0 where
  pub table : TypeTable
  pub teams : Teams
  pub meeting : ℕ → Meeting
  pub judge : ℕ → ℕ → ℕ → ℕ → ℕ

abbrev pub processes_of : PlanTree → ℕ
processes_of T = members T.teams

-- so many objects
abbrev pub nodes_of : PlanTree → ℕ
nodes_of T = 1 + nodes_in T.teams

abbrev pub path_of : PlanTree → ℕ → List Place
path_of T p = path_in T.teams p

-- place i of the path of process p, counted from its lowest node
abbrev pub place_of : PlanTree → ℕ → ℕ → Place
place_of T p i = slice_index_or (path_of T p) i (record { node = 0; team = 0 })

-- i is a place of the path of process p
abbrev pub IsPlace : PlanTree → ℕ → ℕ → Type 0
IsPlace T p i = (p < processes_of T) × (i < length (path_of T p))

-- at each node the processes that come to it, in their teams, are a witness
abbrev pub AreWitnesses : PlanTree → Type 0
AreWitnesses T = (node : ℕ)
    → IsTeamWitness T.table (T.meeting node) (comes_to T.teams node) (team_in T.teams node)

-- and they judge right
abbrev pub IsPlanTree : PlanTree → Type 0
IsPlanTree T = (node : ℕ) → JudgesRight T.table (T.meeting node) (comes_to T.teams node)
    (team_in T.teams node) (T.judge node)

-- the start states, the operations and the sights are those of the type
pub record IsOfType (T : PlanTree) : Type 0 where
  pub starts : (node : ℕ) → (T.meeting node).start < length T.table.states
  pub operations : (node p : ℕ) → Has (comes_to T.teams node) p
      → (T.meeting node).operation p < length T.table.operations
  pub sights : (node p : ℕ) → Has (comes_to T.teams node) p
      → IsSightOf T.table ((T.meeting node).sight p)
