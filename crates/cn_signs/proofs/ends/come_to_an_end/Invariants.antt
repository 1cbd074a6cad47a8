use Rattle.std.proofs.Common.{◌↔◌, ℕ}
use Rattle.std.specs.Prelude.{IsBitSet}
use Rattle.cn_signs.specs.SignChecks.{IsEnd}
use Rattle.cn_signs.proofs.RankedStates.{Ranked}
use Rattle.cn_signs.proofs.ends.come_to_an_end.Given as goal

-- what is left is of the states, and the others have numbers that fall
abbrev pub invariant-loop-ends : goal.invariant-loop-ends
invariant-loop-ends l = record {
  within : (q : ℕ) → IsBitSet l.left q → IsBitSet l.fn.states q;
  exact : (q : ℕ) → IsBitSet l.ends q ↔ IsEnd l.table l.operations l.rows l.left q;
  ranked : Ranked l.table l.operations l.rows l.fn.states l.left;
}

abbrev pub decreases-loop-ends : goal.decreases-loop-ends
decreases-loop-ends l = l.left
