use Rattle.std.proofs.Common.{◌≡◌, ◌+◌, length}
use Rattle.cn_tree_costs.specs.Least.{IsLoadTable}
use Rattle.cn_shortest.specs.Loads.{IsSmallTable, all_roots, table_of}
use Rattle.cn_shortest.proofs.loads.rows.Given as goal

abbrev pub invariant-loop-place : goal.invariant-loop-place
invariant-loop-place l = record {
  long : length l.rows.items ≡ l.place + 1;
  small : IsSmallTable (table_of l.rows.items);
  table : IsLoadTable (all_roots l.roots) (l.place + 1) 28 (table_of l.rows.items);
}
