use Rattle.std.proofs.Common.{ℕ}
use Rattle.cn_stocks.specs.Pairs.{Has}
use Rattle.cn_stocks.proofs.Steps.{Gathered}
use Rattle.cn_collisions.specs.Exact.{ShowsNow}
use Rattle.cn_collisions.proofs.ExactWords.{ShowsPart}
use Rattle.cn_collisions.proofs.word_sets.shown_from.Given as goal

-- the pairs by words that begin with the operations so far
abbrev pub invariant-loop-operation : goal.invariant-loop-operation
invariant-loop-operation l = (r q : ℕ)
    → Gathered (ShowsNow l.setting.table.now l.fn.start l.setting.stock.now.operations.items l.fn.asked l.fn.count r q)
    (ShowsPart l.setting.table.now l.fn.start l.setting.stock.now.operations.items l.fn.asked l.fn.count r q) l.operation (Has l.set r q)
