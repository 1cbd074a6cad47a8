use Rattle.std.proofs.Common.{◌≡◌, ℕ}
use Rattle.std.specs.Prelude.{IsBitSet}
use Rattle.cn_stocks.proofs.Steps.{EndsPart, Gathered}
use Rattle.cn_telling.proofs.ends.ends_from.Given as goal

-- the states by words that begin with the operations so far
abbrev pub invariant-loop-operation : goal.invariant-loop-operation
invariant-loop-operation l = (q : ℕ)
    → Gathered (q ≡ l.fn.start) (EndsPart l.setting.table.now l.fn.start l.setting.stock.now.operations.items q) l.operation (IsBitSet l.set q)
