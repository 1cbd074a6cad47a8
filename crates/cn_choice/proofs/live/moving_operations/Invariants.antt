use Rattle.std.proofs.Common.{◌≡◌, ◌<◌, ℕ, false, get_or, length}
use Rattle.std.specs.Prelude.{◌==◌, not}
use Rattle.cn_table.specs.TypeTable.{transition}
use Rattle.cn_choice.proofs.live.moving_operations.Given as goal

-- each operation so far is marked if it leads away
abbrev pub invariant-loop-operation : goal.invariant-loop-operation
invariant-loop-operation l = record {
  long : length l.moving ≡ 8;
  marked : (operation : ℕ) → operation < l.operation → get_or l.moving operation false ≡ not ((transition l.table operation l.state.0).1 == l.state.0);
}
