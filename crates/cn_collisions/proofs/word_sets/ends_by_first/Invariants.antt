use Rattle.std.proofs.Common.{ℕ}
use Rattle.std.specs.Prelude.{IsBitSet}
use Rattle.cn_stocks.proofs.Steps.{Gathered}
use Rattle.cn_collisions.proofs.ExactWords.{EndsPart}
use Rattle.cn_collisions.proofs.word_sets.ends_by_first.Given as goal

-- the states by words that begin with the operations so far
abbrev pub invariant-loop-operation : goal.invariant-loop-operation
invariant-loop-operation l = (q : ℕ)
    → Gathered ⊥ (EndsPart l.setting.table.now l.fn.start l.setting.stock.now.operations.items l.fn.count q) l.operation (IsBitSet l.set q)
