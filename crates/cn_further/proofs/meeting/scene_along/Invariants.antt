use Rattle.std.proofs.Common.{drop, length}
use Rattle.cn_further.specs.FurtherNodes.{further_of}
use Rattle.cn_further.specs.Meetings.{scene_along}
use Rattle.cn_further.specs.SceneLists.{AgreeFor, IsSceneOf, scene_of}
use Rattle.cn_further.proofs.meeting.scene_along.Given as goal

-- the scene after the moves from this place on
abbrev pub invariant-loop-place : goal.invariant-loop-place
invariant-loop-place l = record {
  scene : IsSceneOf l.table (length l.operations) l.scene;
  along : AgreeFor (length l.operations) (scene_of l.scene) (scene_along l.table l.fn.state.0 l.operations (further_of l.follow_ups) (drop l.place l.moves));
}
