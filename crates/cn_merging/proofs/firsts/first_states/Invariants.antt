use Rattle.cn_table.specs.TypeTable.{IsTypeTable}
use Rattle.cn_merging.proofs.Refining.{IsPartition, room}
use Rattle.cn_merging.proofs.firsts.first_states.Given as goal

abbrev pub invariant-loop-finer : goal.invariant-loop-finer
invariant-loop-finer l = record {
  table : IsTypeTable l.table;
  parts : IsPartition l.table l.firsts.items;
}

abbrev pub decreases-loop-finer : goal.decreases-loop-finer
decreases-loop-finer l = room 16 l.firsts.items
