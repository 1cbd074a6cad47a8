use Rattle.std.proofs.Common.{◌≡◌, ◌<◌, drop, length}
use Rattle.cn_table.specs.Run.{state_after}
use Rattle.cn_stock_check.proofs.words.state_left.Given as goal

-- the rest of the word leads to the same state
abbrev pub invariant-loop-operation : goal.invariant-loop-operation
invariant-loop-operation l = record {
  known : l.state.0 < length l.table.states;
  left : state_after l.table l.state.0 (drop l.operation-index l.word) ≡ state_after l.table l.fn.start.0 l.word;
}
