use Rattle.std.proofs.Common.{◌⊎◌, ◌↔◌, ℕ, length}
use Rattle.std.specs.Prelude.{IsBitSet}
use Rattle.cn_outcomes.specs.Subsets.{Below}
use Rattle.cn_signs.specs.StateSets.{StepsTo}
use Rattle.cn_signs.proofs.states.grown.Given as goal

-- the steps of the operations so far
abbrev pub invariant-loop-number : goal.invariant-loop-number
invariant-loop-number l = record {
  same : (q : ℕ) → IsBitSet l.grown q ↔ (IsBitSet l.set q ⊎ StepsTo l.table l.fn.many.0 l.further l.number-index l.set q);
  known : Below (length l.table.states) l.grown;
}
