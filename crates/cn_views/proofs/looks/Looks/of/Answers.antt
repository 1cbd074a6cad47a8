use Rattle.cn_views.proofs.Telling.{all_known}
use Rattle.cn_views.proofs.looks.Looks.of.Goals as goal

pub all_alike-alike-requires : goal.all_alike-alike-requires
all_alike-alike-requires c = rw c.as_slice.ensures.value (all_known c.args.table.now c.silent_operations-operations.result.items c.silent_operations-operations.ensures)

pub returns : goal.returns
returns c = record {
  silent = c.silent_operations-operations.ensures;
  sets = rw c.as_slice.ensures.value at c.all_alike-alike.ensures.sets;
  long = c.all_alike-alike.ensures.long;
}
