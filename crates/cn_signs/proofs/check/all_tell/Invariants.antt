use Rattle.std.proofs.Common.{◌<◌, ℕ}
use Rattle.std.specs.Prelude.{IsBitSet}
use Rattle.cn_signs.specs.SignChecks.{SomeTells}
use Rattle.cn_signs.proofs.check.all_tell.Given as goal

-- in each state so far some does
abbrev pub invariant-loop-state : goal.invariant-loop-state
invariant-loop-state l = (q : ℕ) → q < l.state → IsBitSet l.states q → SomeTells l.table l.operations l.rows q
