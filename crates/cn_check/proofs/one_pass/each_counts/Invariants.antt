use Rattle.std.proofs.Common.{◌≡◌, ◌<◌, ◌∷◌, [], ℕ, true}
use Rattle.cn_check.specs.Refutations.{all_count}
use Rattle.cn_check.proofs.one_pass.each_counts.Given as goal

-- each operation before this one counts
abbrev pub invariant-loop-operation : goal.invariant-loop-operation
invariant-loop-operation l = (o : ℕ) → o < l.operation → all_count l.version l.table l.state.0 (o ∷ []) ≡ true
