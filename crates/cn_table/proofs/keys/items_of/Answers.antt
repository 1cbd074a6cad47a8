use Rattle.cn_table.proofs.KeyLemmas.{list_of-view}
use Rattle.cn_table.proofs.keys.items_of.Goals as goal

pub returns : goal.returns
returns c = rw (← c.in_ok-items.ensures, c.as_slice.ensures.value, list_of-view)
