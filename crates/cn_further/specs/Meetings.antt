-- Meetings: a process has finished with the same after schedules that different teams begin. Then
-- nothing tells which team was first. New here.
use Rattle.std.specs.Prelude.{◌≡◌, ℕ, ◌<◌, List, [], ◌∷◌, length, Option, None}
use Rattle.cn_table.specs.TypeTable.{TypeTable}
use Rattle.cn_choice.specs.declared.team.Team.TheVariants.{A, B}
use Rattle.cn_unread.specs.Nodes.{AreMoves, BeganIn, Scene, team_of}
use Rattle.cn_further.specs.FurtherNodes.{next_operation}
use Rattle.cn_further.specs.SceneLists.{first_scene, scene_next}

-- the scene after these next operations of roles, the latest first
abbrev pub scene_along : TypeTable → ℕ → List ℕ → (ℕ → ℕ → Option ℕ) → List ℕ → Scene
scene_along t state operations further [] = first_scene state
scene_along t state operations further (j ∷ moves) =
    scene_next t operations further (scene_along t state operations further moves) j

-- role j has finished with the same after both lists of moves, the first begun by a role below size
pub record IsMeeting (t : TypeTable) (state size : ℕ) (operations : List ℕ)
    (further : ℕ → ℕ → Option ℕ) (j : ℕ) (one other : List ℕ) : Type 0 where
  pub role : j < length operations
  pub one_known : AreMoves (length operations) one
  pub other_known : AreMoves (length operations) other
  pub one_begins : BeganIn (team_of size) A one
  pub other_begins : BeganIn (team_of size) B other
  pub finished : next_operation operations further j
      ((scene_along t state operations further one).kept j) ≡ None
  pub same : (scene_along t state operations further one).kept j
      ≡ (scene_along t state operations further other).kept j
