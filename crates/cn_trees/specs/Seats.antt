-- One witness at every node: each process takes a role of its team there.
-- Source: Ruppert, Determining consensus numbers, 2000: the tournament of a witness of two teams.
use Rattle.std.specs.Prelude.{ℕ, zero, suc, ◌≡◌, ◌+◌, ◌-◌, ◌<◌, ◌≤◌, nat_lt, nat_eq, if◌then◌else◌}
use Rattle.std.specs.Prelude.{Bool, length}
use Rattle.cn_table.specs.TypeTable.{TypeTable}
use Rattle.cn_choice.specs.Canonical.{Choice}
use Rattle.cn_proto.specs.Tournament.{Bracket, whole}
use Rattle.cn_proto.specs.Tournament.Bracket.{Alone as Single, Node}
use Rattle.cn_meetings.specs.Choices.{choice_meeting, renamed}
use Rattle.cn_meetings.specs.Meeting.{Meeting}
use Rattle.cn_meetings.specs.Witness.{Has}
use Rattle.cn_trees.specs.Tree.{PlanTree, Teams, members, nodes_in, team_in}
use Rattle.cn_trees.specs.Tree.Teams.{Alone, Last, Meet}

-- the number of a process within its team at node v, among processes of these teams, whose node has
-- this number and whose nodes below have numbers from next on
abbrev pub seat : Teams → ℕ → ℕ → ℕ → ℕ → ℕ
seat Last node next p v = 0
seat (Alone r) node next zero v = 0
seat (Alone r) node next (suc p) v = seat r node next p v
seat (Meet s r) node next p v =
    if nat_lt p (members s)
    then (if nat_eq v node then p else seat s next (next + 1) p v)
    else seat r node (next + 1 + nodes_in s) (p - members s) v

abbrev pub seat_in : Teams → ℕ → ℕ → ℕ
seat_in s node p = seat s 0 1 p node

-- at each node team g has at most room g processes; these teams begin with this number
abbrev pub Fits : (ℕ → ℕ) → ℕ → Teams → Type 0
Fits room team Last = Unit {0}
Fits room team (Alone r) = (1 ≤ room team) × Fits room (team + 1) r
Fits room team (Meet s r) = (members s ≤ room team) × Fits room 0 s × Fits room (team + 1) r

-- the roles of a meeting of these processes in these teams: team g has so many, with these numbers
pub record HasRoles (processes : ℕ → Bool) (team room : ℕ → ℕ) (role : ℕ → ℕ → ℕ) : Type 0 where
  pub known : (g i : ℕ) → i < room g → Has processes (role g i)
  pub team_is : (g i : ℕ) → i < room g → team (role g i) ≡ g
  pub apart : (g i j : ℕ) → i < room g → j < room g → role g i ≡ role g j → i ≡ j

-- the tree with this meeting at each node, with any judgements
abbrev pub seated_tree : TypeTable → Teams → Meeting → (ℕ → ℕ → ℕ) → PlanTree
seated_tree t s M role = record {
  table = t;
  teams = s;
  meeting = λ node. renamed (λ p. role (team_in s node p) (seat_in s node p)) M;
  judge = λ node p response saw. 0;
}

-- the teams of the root of a bracket: a bracket of several processes is a team of a node below
abbrev pub with_team : Bracket → Teams → Teams
with_team Single rest = Alone rest
with_team (Node s u) rest = Meet (with_team s (with_team u Last)) rest

abbrev pub root_of : Bracket → Teams
root_of Single = Alone Last
root_of (Node s u) = with_team s (with_team u Last)

-- the teams of the tournament of a witness with teams of a and b
abbrev pub tournament_teams : ℕ → ℕ → Teams
tournament_teams a b = root_of (whole a b)

-- team A has a roles from 0 on, team B has b from a on
abbrev pub pair_room : ℕ → ℕ → ℕ → ℕ
pair_room a b zero = a
pair_room a b (suc zero) = b
pair_room a b (suc (suc g)) = 0

abbrev pub pair_role : ℕ → ℕ → ℕ → ℕ
pair_role a zero i = i
pair_role a (suc g) i = a + i

-- the tournament of a choice whose processes read the state
abbrev pub tournament_tree : TypeTable → Choice → PlanTree
tournament_tree t c = seated_tree t (tournament_teams (length c.a) (length c.b)) (choice_meeting c)
    (pair_role (length c.a))
