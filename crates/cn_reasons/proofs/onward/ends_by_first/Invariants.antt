use Rattle.std.proofs.Common.{ℕ}
use Rattle.std.specs.Prelude.{IsBitSet}
use Rattle.cn_stocks.proofs.Steps.{Gathered}
use Rattle.cn_reasons.proofs.OnwardLemmas.{Part}
use Rattle.cn_reasons.proofs.onward.ends_by_first.Given as goal

-- the states by words that begin with the operations so far
abbrev pub invariant-loop-operation : goal.invariant-loop-operation
invariant-loop-operation l = (q : ℕ) → Gathered ⊥ (Part l.table l.fn.start l.fn.count q) l.operation (IsBitSet l.set q)
