use Rattle.std.proofs.Common.{◌≡◌, ◌<◌, ◌++◌, drop, length, string_bytes}
use Rattle.cn_table.specs.Run.{state_after}
use Rattle.cn_stock_text.specs.Joins.{steps_text}
use Rattle.cn_stock_text.proofs.joins.push_steps.Given as goal

-- the operations so far, and the others
abbrev pub invariant-loop-k : goal.invariant-loop-k
invariant-loop-k l = record {
  known : l.state.0 < length l.table.states;
  text : string_bytes l.text ++ steps_text l.table l.place l.k l.state.0 (drop l.k l.word) ≡ string_bytes l.initial.text ++ steps_text l.table l.place 0 l.fn.start.0 l.word;
  left : state_after l.table l.state.0 (drop l.k l.word) ≡ state_after l.table l.fn.start.0 l.word;
}
