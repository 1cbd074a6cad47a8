use Rattle.std.proofs.Common.{ℕ, ◌≡◌, ◌<◌, ◌+◌, length, None, get_or}
use Rattle.cn_shortest.specs.Loads.{IsEntry, roots_in, table_of}
use Rattle.cn_shortest.proofs.loads.next_row.Given as goal

abbrev pub invariant-loop-budget : goal.invariant-loop-budget
invariant-loop-budget l = record {
  long : length l.loads ≡ 29;
  each : (i : ℕ) → i < l.budget → IsEntry (table_of l.rows) (length l.rows + 1) i (roots_in l.roots) (get_or l.loads i None);
}
