-- Nodes without reads: processes of two teams at one object, each of which does operations that it
-- chooses by the responses so far, until it tells the team that was first.
-- Source: Ruppert, Determining consensus numbers, 2000: teams. Nodes with several operations for each
-- process are new here.
use Rattle.std.specs.Prelude.{◌≡◌, ◌≢◌, ℕ, ◌+◌, ◌<◌, ◌≤◌, List, [], ◌∷◌, length, count_by, nat_eq, nat_lt}
use Rattle.std.specs.Prelude.{if◌then◌else◌}
use Rattle.std.specs.List.{AllByRecursion}
use Rattle.cn_table.specs.TypeTable.{TypeTable, transition}
use Rattle.cn_choice.specs.declared.team.Team.{Team}
use Rattle.cn_choice.specs.declared.team.Team.TheVariants.{A, B}
use Rattle.cn_unread.specs.Functions.{put}

-- what a process does next at a node: it applies an operation to the object, and goes on by the
-- response; or it has finished, and tells the team that was first. It keeps two numbers.
pub data Move : Type 0 where
  Apply : ℕ → (ℕ → ℕ × ℕ) → Move
  Finish : Team → Move

-- the state in which the object starts; for each role what it keeps first, and its next move
pub record Node : Type 0 where
  pub state : ℕ
  pub start : ℕ → ℕ × ℕ
  pub move : ℕ → ℕ × ℕ → Move

-- the state of the object, and what each role keeps
pub record Scene : Type 0 where
  pub object : ℕ
  pub kept : ℕ → ℕ × ℕ

-- the scene after this move of the role. A role that has finished changes nothing.
abbrev pub moved : TypeTable → Scene → ℕ → Move → Scene
moved t w j (Apply o k) = record {
  object = (transition t o w.object).1;
  kept = put w.kept j (k (transition t o w.object).0);
}
moved t w j (Finish side) = w

-- the scene after the next move of the role
abbrev pub next_scene : TypeTable → Node → Scene → ℕ → Scene
next_scene t node w j = moved t w j (node.move j (w.kept j))

-- moves of roles below n, the latest first
-- the same as IsSchedule of cn_consensus
abbrev pub AreMoves : ℕ → List ℕ → Type 0
AreMoves n moves = AllByRecursion (λ j. j < n) moves

-- how often a role moves
-- the same as occurrences of cn_consensus
abbrev pub moves_of : List ℕ → ℕ → ℕ
moves_of moves j = count_by (λ i. nat_eq i j) moves

-- the team of a role, where team A has the roles below a
-- the same as team_of of cn_proto
abbrev pub team_of : ℕ → ℕ → Team
team_of a role = if nat_lt role a then A else B

-- the scene after these moves of roles, the latest first
abbrev pub scene_after : TypeTable → Node → List ℕ → Scene
scene_after t node [] = record { object = node.state; kept = node.start }
scene_after t node (j ∷ s) = next_scene t node (scene_after t node s) j

-- the role that moved first, the last of the list, is in the team
abbrev pub BeganIn : (ℕ → Team) → Team → List ℕ → Type 0
BeganIn team side [] = ⊥
BeganIn team side (j ∷ []) = team j ≡ side
BeganIn team side (j ∷ k ∷ s) = BeganIn team side (k ∷ s)

-- after the moves, the role has finished and tells this team
abbrev pub Tells : TypeTable → Node → List ℕ → ℕ → Team → Type 0
Tells t node s j side = node.move j ((scene_after t node s).kept j) ≡ Finish side

-- a move of the type: it applies no operation but one of the type's
abbrev pub IsMoveOf : TypeTable → Move → Type 0
IsMoveOf t (Apply o k) = o < length t.operations
IsMoveOf t (Finish side) = Unit {0}

-- a node for a team of a processes and one of b: a role has finished after so many moves of its own,
-- whatever the others do, and what it tells is the team that moved first. So it has not finished
-- before the first move.
pub record IsNode (t : TypeTable) (a b : ℕ) (node : Node) : Type 0 where
  pub state_known : node.state < length t.states
  pub operations_known : (j : ℕ) (x : ℕ × ℕ) → j < a + b → IsMoveOf t (node.move j x)
  pub bound : ℕ
  pub ends : (s : List ℕ) → AreMoves (a + b) s → (j : ℕ) → j < a + b
      → bound ≤ moves_of s j → (side : Team) × Tells t node s j side
  pub tells_first : (s : List ℕ) → AreMoves (a + b) s → (j : ℕ) → j < a + b → (side : Team)
      → Tells t node s j side → BeganIn (team_of a) side s

-- the role has finished
abbrev pub HasFinished : TypeTable → Node → List ℕ → ℕ → Type 0
HasFinished t node s j = (side : Team) × Tells t node s j side

-- a node where nothing need be right about the team that a role tells when it has finished: each role
-- finishes, none before the first move, and what a role that has finished keeps is never the same
-- after moves that team A began and after moves that team B began
pub record IsTellingNode (t : TypeTable) (a b : ℕ) (node : Node) : Type 0 where
  pub state_known : node.state < length t.states
  pub operations_known : (j : ℕ) (x : ℕ × ℕ) → j < a + b → IsMoveOf t (node.move j x)
  pub bound : ℕ
  pub ends : (s : List ℕ) → AreMoves (a + b) s → (j : ℕ) → j < a + b
      → bound ≤ moves_of s j → HasFinished t node s j
  pub starts : (j : ℕ) → j < a + b → HasFinished t node [] j → ⊥
  pub apart : (s u : List ℕ) → AreMoves (a + b) s → AreMoves (a + b) u
      → BeganIn (team_of a) A s → BeganIn (team_of a) B u → (j : ℕ) → j < a + b
      → HasFinished t node s j → HasFinished t node u j
      → (scene_after t node s).kept j ≢ (scene_after t node u).kept j
