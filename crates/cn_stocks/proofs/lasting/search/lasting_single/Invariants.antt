use Rattle.std.proofs.Common.{◌≢◌, ◌<◌, ℕ}
use Rattle.cn_stocks.specs.Lasting.{HaveCommonState}
use Rattle.cn_stocks.proofs.lasting.search.lasting_single.Given as goal

-- the states of each operation so far meet
abbrev pub invariant-loop-single : goal.invariant-loop-single
invariant-loop-single l = (single : ℕ) → single < l.single → l.fn.many ≢ single → HaveCommonState l.table l.fn.start l.fn.many single
