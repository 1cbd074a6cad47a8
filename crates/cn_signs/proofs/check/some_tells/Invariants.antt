use Rattle.std.proofs.Common.{◌<◌, ℕ}
use Rattle.std.specs.Prelude.{slice_index}
use Rattle.cn_signs.specs.SignChecks.{Tells}
use Rattle.cn_signs.proofs.check.some_tells.Given as goal

-- none so far
abbrev pub invariant-loop-number : goal.invariant-loop-number
invariant-loop-number l = (i : ℕ) → i < l.number-index → Tells l.table l.rows (slice_index l.operations i) l.state.0 → ⊥
