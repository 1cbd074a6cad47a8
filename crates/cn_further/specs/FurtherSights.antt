-- What processes can have got when they have finished, by the team that was first. New here.
use Rattle.std.specs.Prelude.{◌≡◌, ◌≢◌, ◌⊎◌, ◌↔◌, ℕ, suc, ◌<◌, ◌≤◌, List, ◌++◌, length, All, AllPairs, Contains, sum_by}
use Rattle.std.specs.Prelude.{IfSome, Option, None, Some, option_map, slice_index}
use Rattle.cn_table.specs.TypeTable.{TypeTable}
use Rattle.cn_choice.specs.Canonical.{Choice}
use Rattle.cn_choice.specs.declared.team.Team.{Team}
use Rattle.cn_unread.specs.Nodes.{AreMoves, BeganIn, team_of}
use Rattle.cn_further.specs.FurtherNodes.{further_of, next_operation}
use Rattle.cn_further.specs.Meetings.{scene_along}
use Rattle.cn_further.specs.SceneLists.{AgreeFor, IsListed, IsSceneOf, LeadsOn, first_scene}
use Rattle.cn_further.specs.SceneLists.{kept_at, scene_next, scene_of}
use Rattle.cn_further.specs.declared.follow_up.FollowUp.{FollowUp}
use Rattle.cn_further.specs.declared.scene.Scene.{Scene as ListedScene}
use Rattle.cn_further.specs.declared.sight.FurtherAnswer.{FurtherAnswer}
use Rattle.cn_further.specs.declared.sight.FurtherSight.{FurtherSight}
use Rattle.cn_further.specs.declared.stage.Stage.{Stage}
use Rattle.cn_further.specs.declared.stage.Stage.TheVariants.{Done, Moved, Waiting}

-- what a process keeps that has got this
abbrev pub answer_kept : Option FurtherAnswer → ℕ
answer_kept None = 0
answer_kept (Some answer) = suc answer.response.0

abbrev pub sight_kept : FurtherSight → ℕ × ℕ
sight_kept s = (suc s.response.0, answer_kept s.further)

-- its operation and responses are the table's
abbrev pub IsKnownAnswer : TypeTable → FurtherAnswer → Type 0
IsKnownAnswer t a = (a.operation.0 < length t.operations) × (a.response.0 < length t.responses)

pub record IsKnownSight (t : TypeTable) (s : FurtherSight) : Type 0 where
  pub response : s.response.0 < length t.responses
  pub further : IfSome s.further (IsKnownAnswer t)

-- the answer is that of the further operation for the response; none if there is no such operation
abbrev pub IsFurtherFor : (ℕ → ℕ → Option ℕ) → ℕ → FurtherSight → Type 0
IsFurtherFor further own s = option_map (λ a. a.operation.0) s.further ≡ further own s.response.0

-- the process can have got this when it has finished: it has after some schedule that the team begins
pub record IsSight (t : TypeTable) (state size : ℕ) (operations : List ℕ)
    (further : ℕ → ℕ → Option ℕ) (s : FurtherSight) : Type 0 where
  pub process : s.process < length operations
  pub answer : IsFurtherFor further (slice_index operations s.process) s
  pub moves : List ℕ
  pub known : AreMoves (length operations) moves
  pub begun : BeganIn (team_of size) s.first moves
  pub kept : (scene_along t state operations further moves).kept s.process ≡ sight_kept s

-- the list has what each process can have got when it has finished, by the team that was first, each
-- once
pub record AreFurtherSights (t : TypeTable) (c : Choice) (follow_ups : List FollowUp)
    (list : List FurtherSight) : Type 0 where
  pub same : (s : FurtherSight) → Contains list s
      ↔ IsSight t c.state (length c.a) (c.a ++ c.b) (further_of follow_ups) s
  pub once : AllPairs (λ x y. x ≢ y) list

-- where a process has two responses, there is a further operation for the first
abbrev pub Fits : (ℕ → ℕ → Option ℕ) → ℕ → ℕ × ℕ → Type 0
Fits further own x = (r s : ℕ) → x.0 ≡ suc r → x.1 ≡ suc s → further own r ≢ None

-- what role j keeps when it has finished where the team was first, as it is told
abbrev pub IsEndOf : Team → ℕ → ℕ × ℕ → FurtherSight → Type 0
IsEndOf team j x s = (s.process ≡ j) × (s.first ≡ team) × (sight_kept s ≡ x)

-- the list has what each role that has finished in the scene keeps
pub record HasEndsOf (operations : List ℕ) (further : ℕ → ℕ → Option ℕ) (team : Team)
    (list : List FurtherSight) (s : ListedScene) : Type 0 where
  pub has : (j : ℕ) → j < length operations
      → next_operation operations further j (kept_at s.stages.items j) ≡ None
      → (r : FurtherSight) × Contains list r × IsEndOf team j (kept_at s.stages.items j) r

-- what each role keeps that has done two operations goes with a further operation
pub record KeepsFitting (operations : List ℕ) (further : ℕ → ℕ → Option ℕ) (s : ListedScene)
    : Type 0 where
  pub processes : length s.stages.items ≡ length operations
  pub fits : (j : ℕ) → j < length operations
      → Fits further (slice_index operations j) (kept_at s.stages.items j)

-- how many operations a process has done
abbrev pub operations_done : Stage → ℕ
operations_done Waiting = 0
operations_done (Moved r) = 1
operations_done (Done r s) = 2

-- a scene after a schedule that the team begins, in which so many operations are done, or more
pub record IsReached (t : TypeTable) (state size : ℕ) (operations : List ℕ)
    (further : ℕ → ℕ → Option ℕ) (team : Team) (count : ℕ) (s : ListedScene) : Type 0 where
  pub scene : IsSceneOf t (length operations) s
  pub done : count ≤ sum_by operations_done s.stages.items
  pub moves : List ℕ
  pub known : AreMoves (length operations) moves
  pub begun : BeganIn (team_of size) team moves
  pub after : AgreeFor (length operations) (scene_of s)
      (scene_along t state operations further moves)

-- the list has the scenes after first operations of the team
pub record HasFirsts (t : TypeTable) (state size : ℕ) (operations : List ℕ)
    (further : ℕ → ℕ → Option ℕ) (team : Team) (scenes : List ListedScene) : Type 0 where
  pub first : (j : ℕ) → j < length operations → team_of size j ≡ team
      → IsListed scenes (length operations) (scene_next t operations further (first_scene state) j)

-- the list has all scenes after first operations of the team, and no others
pub record AreScenesOf (t : TypeTable) (state size : ℕ) (operations : List ℕ)
    (further : ℕ → ℕ → Option ℕ) (team : Team) (scenes : List ListedScene) : Type 0 where
  pub firsts : HasFirsts t state size operations further team scenes
  pub closed : All (LeadsOn t operations further scenes) scenes
  pub reached : All (IsReached t state size operations further team 0) scenes

-- each next operation leads from the scene to the list, unless it changes nothing
pub record LeadsTo (t : TypeTable) (operations : List ℕ) (further : ℕ → ℕ → Option ℕ)
    (scenes : List ListedScene) (s : ListedScene) : Type 0 where
  pub next : (j : ℕ) → j < length operations
      → (scene_next t operations further (scene_of s) j ≡ scene_of s)
      ⊎ IsListed scenes (length operations) (scene_next t operations further (scene_of s) j)
