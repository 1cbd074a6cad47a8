use Rattle.std.proofs.Common.{ℕ, ◌≡◌, ◌<◌, ◌↔◌, length}
use Rattle.std.specs.Prelude.{IsBitSet}
use Rattle.cn_stocks.specs.Each.{EachAt}
use Rattle.cn_table.specs.TypeTable.{transition}
use Rattle.cn_divisions.proofs.looks.answers.Given as goal

-- those of the responses so far
abbrev pub invariant-loop-response : goal.invariant-loop-response
invariant-loop-response l = record {
  long : length l.sets.items ≡ l.response;
  each : EachAt (λ r set. (q : ℕ) → IsBitSet set q ↔ ((q < length l.table.states) × ((transition l.table l.fn.operation.0 q).0 ≡ r))) l.response l.sets.items;
}
