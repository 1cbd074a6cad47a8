use Rattle.std.proofs.Common.{◌<◌, ℕ}
use Rattle.cn_copies.specs.Copies.{AreCopies}
use Rattle.cn_copies.proofs.copies.is_copy.Given as goal

-- no operation so far does the same
abbrev pub invariant-loop-earlier : goal.invariant-loop-earlier
invariant-loop-earlier l = (p : ℕ) → p < l.earlier → AreCopies l.table p l.fn.operation.0 → ⊥
