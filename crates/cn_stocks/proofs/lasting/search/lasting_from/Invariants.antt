use Rattle.std.proofs.Common.{◌≢◌, ◌<◌, ℕ, length}
use Rattle.cn_stocks.specs.Lasting.{HaveCommonState}
use Rattle.cn_stocks.proofs.lasting.search.lasting_from.Given as goal

-- the states of each operation so far, with any other one, meet
abbrev pub invariant-loop-many : goal.invariant-loop-many
invariant-loop-many l = (many : ℕ) → many < l.many → (single : ℕ) → single < length l.table.operations → many ≢ single → HaveCommonState l.table l.fn.start many single
