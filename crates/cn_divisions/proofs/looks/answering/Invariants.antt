use Rattle.std.proofs.Common.{ℕ, ◌≡◌, ◌<◌, ◌↔◌}
use Rattle.std.specs.Prelude.{IsBitSet}
use Rattle.cn_table.specs.TypeTable.{transition}
use Rattle.cn_divisions.proofs.looks.answering.Given as goal

-- those of the states so far
abbrev pub invariant-loop-state : goal.invariant-loop-state
invariant-loop-state l = (q : ℕ) → IsBitSet l.set q ↔ ((q < l.state) × ((transition l.table l.fn.operation.0 q).0 ≡ l.fn.response))
