use Rattle.std.proofs.Common.{◌≤◌, All, take}
use Rattle.cn_stocks.specs.Words.{times}
use Rattle.cn_join_find.proofs.reach.is_within.Given as goal

-- the stock has each operation so far as often as the word
abbrev pub invariant-loop-operation : goal.invariant-loop-operation
invariant-loop-operation l = All (λ o. times o l.word ≤ times o l.stock) (take l.operation-index l.word)
