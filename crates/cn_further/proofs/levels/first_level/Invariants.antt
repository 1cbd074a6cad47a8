use Rattle.std.proofs.Common.{◌≡◌, ◌<◌, ℕ, All, length}
use Rattle.cn_further.specs.FurtherNodes.{further_of}
use Rattle.cn_further.specs.FurtherSights.{IsReached}
use Rattle.cn_further.specs.SceneLists.{IsListed, first_scene, scene_next}
use Rattle.cn_unread.specs.Nodes.{team_of}
use Rattle.cn_further.proofs.levels.first_level.Given as goal

-- so it is of the processes so far
abbrev pub invariant-loop-process : goal.invariant-loop-process
invariant-loop-process l = record {
  first : (j : ℕ) → j < l.process → team_of l.size j ≡ l.team
      → IsListed l.scenes.items (length l.operations) (scene_next l.table l.operations (further_of l.follow_ups) (first_scene l.fn.state.0) j);
  reached : All (IsReached l.table l.fn.state.0 l.size l.operations (further_of l.follow_ups) l.team 0) l.scenes.items;
}
