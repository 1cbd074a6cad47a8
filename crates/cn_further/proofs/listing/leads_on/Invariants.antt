use Rattle.std.proofs.Common.{ℕ, ◌<◌, length}
use Rattle.cn_further.specs.FurtherNodes.{further_of}
use Rattle.cn_further.specs.SceneLists.{IsListed, scene_next, scene_of}
use Rattle.cn_further.proofs.listing.leads_on.Given as goal

-- those so far lead to listed scenes
abbrev pub invariant-loop-process : goal.invariant-loop-process
invariant-loop-process l = (j : ℕ) → j < l.process → IsListed l.scenes (length l.operations) (scene_next l.table l.operations (further_of l.follow_ups) (scene_of l.scene) j)
