use Rattle.std.proofs.Common.{◌≡◌, ◌⊎◌, ◌<◌, ◌+◌, ℕ, All, Contains, length}
use Rattle.cn_choice.specs.declared.team.Team.{Team}
use Rattle.cn_further.specs.FurtherNodes.{further_of}
use Rattle.cn_further.specs.FurtherSights.{IsReached}
use Rattle.cn_further.specs.SceneLists.{IsListed, scene_next, scene_of}
use Rattle.cn_further.specs.declared.scene.Scene.{Scene}
use Rattle.cn_further.proofs.levels.add_next.Given as goal

-- so it is of the processes so far
abbrev pub invariant-loop-process : goal.invariant-loop-process
invariant-loop-process l = record {
  next : (j : ℕ) → j < l.process → (scene_next l.table l.operations (further_of l.follow_ups) (scene_of l.scene) j ≡ scene_of l.scene)
      ⊎ IsListed l.scenes.items (length l.operations) (scene_next l.table l.operations (further_of l.follow_ups) (scene_of l.scene) j);
  more : (s : Scene) → Contains l.initial.scenes.items s → Contains l.scenes.items s;
  reached : (state size count : ℕ) (team : Team)
      → IsReached l.table state size l.operations (further_of l.follow_ups) team count l.scene
      → All (IsReached l.table state size l.operations (further_of l.follow_ups) team (count + 1)) l.initial.scenes.items
      → All (IsReached l.table state size l.operations (further_of l.follow_ups) team (count + 1)) l.scenes.items;
}
