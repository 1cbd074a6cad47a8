-- Scenes of nodes with further operations as a program lists them, and what a list has to be. New
-- here.
use Rattle.std.specs.Prelude.{◌≡◌, ℕ, suc, ◌≤◌, ◌<◌, List, length, All, Any, Option, None, Some}
use Rattle.std.specs.Prelude.{Bool, ◌&&◌, nat_eq, slice_index_or, if◌then◌else◌}
use Rattle.std.specs.List.{list_any}
use Rattle.cn_table.specs.TypeTable.{TypeTable, transition}
use Rattle.cn_choice.specs.declared.team.Team.{Team}
use Rattle.cn_choice.specs.declared.team.Team.TheVariants.{A, B}
use Rattle.cn_unread.specs.Nodes.{Scene}
use Rattle.cn_unread.specs.Functions.{put}
use Rattle.cn_further.specs.FurtherNodes.{kept_with, next_operation}
use Rattle.cn_further.specs.declared.listing.End.{End}
use Rattle.cn_further.specs.declared.scene.Scene.{Scene as ListedScene}
use Rattle.cn_further.specs.declared.stage.Stage.{Stage}
use Rattle.cn_further.specs.declared.stage.Stage.TheVariants.{Done, Moved, Waiting}

-- what a process keeps at this stage
abbrev pub kept_of : Stage → ℕ × ℕ
kept_of Waiting = (0, 0)
kept_of (Moved r) = (suc r.0, 0)
kept_of (Done r s) = (suc r.0, suc s.0)

-- what each process of a list keeps; behind its end nobody has moved
abbrev pub kept_at : List Stage → ℕ → ℕ × ℕ
kept_at stages j = kept_of (slice_index_or stages j Waiting)

-- whether two are the same
abbrev pub same_kept : ℕ × ℕ → ℕ × ℕ → Bool
same_kept x y = nat_eq x.0 y.0 && nat_eq x.1 y.1

abbrev pub scene_of : ListedScene → Scene
scene_of s = record { object = s.object.0; kept = kept_at s.stages.items }

-- nobody has moved
abbrev pub first_scene : ℕ → Scene
first_scene state = record { object = state; kept = λ j. (0, 0) }

-- the scene after role j has done the operation, if there is one
abbrev pub step_by : TypeTable → Scene → ℕ → Option ℕ → Scene
step_by t w j None = w
step_by t w j (Some o) = record {
  object = (transition t o w.object).1;
  kept = put w.kept j (kept_with (w.kept j) (transition t o w.object).0);
}

-- the scene after the next operation of role j
abbrev pub scene_next : TypeTable → List ℕ → (ℕ → ℕ → Option ℕ) → Scene → ℕ → Scene
scene_next t operations further w j =
    step_by t w j (next_operation operations further j (w.kept j))

-- the scenes agree on the object and on what each of n roles keeps
abbrev pub AgreeFor : ℕ → Scene → Scene → Type 0
AgreeFor n v w = (v.object ≡ w.object) × ((j : ℕ) → j < n → v.kept j ≡ w.kept j)

-- some scene of the list agrees with this one
abbrev pub IsListed : List ListedScene → ℕ → Scene → Type 0
IsListed scenes n w = Any (λ s. AgreeFor n w (scene_of s)) scenes

-- a scene of the table for n processes
abbrev pub IsSceneOf : TypeTable → ℕ → ListedScene → Type 0
IsSceneOf t n s = (s.object.0 < length t.states) × (length s.stages.items ≡ n)

-- each next operation leads from the scene to one of the list
pub record LeadsOn (t : TypeTable) (operations : List ℕ) (further : ℕ → ℕ → Option ℕ)
    (scenes : List ListedScene) (s : ListedScene) : Type 0 where
  pub next : (j : ℕ) → j < length operations
      → IsListed scenes (length operations) (scene_next t operations further (scene_of s) j)

-- the first operations of roles from low on and below high lead to scenes of the list
pub record HasStarts (t : TypeTable) (state : ℕ) (operations : List ℕ)
    (further : ℕ → ℕ → Option ℕ) (scenes : List ListedScene) (low high : ℕ) : Type 0 where
  pub next : (j : ℕ) → low ≤ j → j < high → IsListed scenes (length operations)
      (scene_next t operations further (first_scene state) j)

-- team A for what is in the list, else team B
abbrev pub told_by : List End → ℕ → ℕ × ℕ → Team
told_by ends j x = if list_any (λ e. nat_eq e.process j && same_kept (kept_of e.stage) x) ends
    then A else B

-- each role that has finished in the scene tells this team
pub record TellsRight (operations : List ℕ) (further : ℕ → ℕ → Option ℕ) (ends : List End)
    (side : Team) (s : ListedScene) : Type 0 where
  pub told : (j : ℕ) → j < length operations
      → next_operation operations further j (kept_at s.stages.items j) ≡ None
      → told_by ends j (kept_at s.stages.items j) ≡ side

-- no next operation leads out of the list, and in it each role that has finished tells this team
pub record IsClosedList (t : TypeTable) (operations : List ℕ) (further : ℕ → ℕ → Option ℕ)
    (ends : List End) (side : Team) (scenes : List ListedScene) : Type 0 where
  pub closed : All (LeadsOn t operations further scenes) scenes
  pub right : All (TellsRight operations further ends side) scenes

-- closed lists of scenes: the first has those after first operations of roles below size, the second
-- those after first operations of the others
pub record IsListing (t : TypeTable) (state size : ℕ) (operations : List ℕ)
    (further : ℕ → ℕ → Option ℕ) (ends : List End) (after_a after_b : List ListedScene)
    : Type 0 where
  pub starts_a : HasStarts t state operations further after_a 0 size
  pub starts_b : HasStarts t state operations further after_b size (length operations)
  pub list_a : IsClosedList t operations further ends A after_a
  pub list_b : IsClosedList t operations further ends B after_b
