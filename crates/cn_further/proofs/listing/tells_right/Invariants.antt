use Rattle.std.proofs.Common.{◌≡◌, ℕ, ◌<◌}
use Rattle.std.specs.Prelude.{None}
use Rattle.cn_further.specs.FurtherNodes.{further_of, next_operation}
use Rattle.cn_further.specs.SceneLists.{kept_at, told_by}
use Rattle.cn_further.proofs.listing.tells_right.Given as goal

-- those so far are right
abbrev pub invariant-loop-process : goal.invariant-loop-process
invariant-loop-process l = (j : ℕ) → j < l.process → next_operation l.operations (further_of l.follow_ups) j (kept_at l.scene.stages.items j) ≡ None → told_by l.ends j (kept_at l.scene.stages.items j) ≡ l.side
