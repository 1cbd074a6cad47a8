use Rattle.std.proofs.Common.{ℕ, ◌<◌, ◌≤◌, length}
use Rattle.cn_further.specs.FurtherNodes.{further_of}
use Rattle.cn_further.specs.SceneLists.{IsListed, first_scene, scene_next}
use Rattle.cn_further.proofs.listing.has_starts.Given as goal

-- those so far lead to listed scenes
abbrev pub invariant-loop-process : goal.invariant-loop-process
invariant-loop-process l = (j : ℕ) → j < l.process → l.low ≤ j → IsListed l.scenes (length l.operations) (scene_next l.table l.operations (further_of l.follow_ups) (first_scene l.fn.state.0) j)
