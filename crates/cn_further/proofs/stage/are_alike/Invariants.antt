use Rattle.std.proofs.Common.{◌≡◌, ℕ, ◌<◌}
use Rattle.cn_further.specs.SceneLists.{kept_at}
use Rattle.cn_further.proofs.stage.are_alike.Given as goal

-- those so far are alike
abbrev pub invariant-loop-process : goal.invariant-loop-process
invariant-loop-process l = (j : ℕ) → j < l.process → kept_at l.ones j ≡ kept_at l.others j
