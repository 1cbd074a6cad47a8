use Rattle.cn_table.proofs.OtherEntries.{entry_elsewhere, entry_in_other_state, entry_table, entry_there}
use Rattle.cn_table.proofs.other_entry.entry_makes_a_table.Goals as goal

pub returns : goal.returns
returns c = record {
  table = entry_table;
  there = entry_there;
  other_operation = entry_elsewhere;
  other_state = entry_in_other_state;
}
