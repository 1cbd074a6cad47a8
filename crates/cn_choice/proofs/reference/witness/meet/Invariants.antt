use Rattle.std.proofs.Common.{◌≡◌, ℕ, ◌<◌, Some}
use Rattle.cn_choice.specs.OutcomeSets.{pair_of}
use Rattle.cn_choice.proofs.reference.witness.meet.Given as goal

-- no process before this one gets the same pair
abbrev pub invariant-loop-process : goal.invariant-loop-process
invariant-loop-process l = (j : ℕ) → j < l.process → (pair : ℕ × ℕ) → pair_of l.table l.choice l.alpha j ≡ Some pair → pair_of l.table l.choice l.beta j ≡ Some pair → ⊥
