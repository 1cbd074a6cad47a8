use Rattle.std.proofs.Common.{ℕ, ◌<◌}
use Rattle.cn_stock_check.specs.Faults.{NoticesItselfSomewhere}
use Rattle.cn_stock_check.proofs.evidence.first_noticing.Given as goal

-- none so far notices itself
abbrev pub invariant-loop-operation : goal.invariant-loop-operation
invariant-loop-operation l = (o : ℕ) → o < l.operation → ¬ NoticesItselfSomewhere l.table o
