use Rattle.std.proofs.Common.{◌≢◌, ◌<◌, ℕ, length}
use Rattle.cn_stocks.specs.Lasting.{HaveCommonState}
use Rattle.cn_stocks.proofs.lasting.search.find_lasting.Given as goal

-- from each state so far the states of each two operations meet
abbrev pub invariant-loop-start : goal.invariant-loop-start
invariant-loop-start l =
    (start : ℕ) → start < l.start → (many : ℕ) → many < length l.table.operations → (single : ℕ) → single < length l.table.operations → many ≢ single
    → HaveCommonState l.table start many single
