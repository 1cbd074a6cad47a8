use Rattle.cn_table.proofs.Rows.{name_at}
use Rattle.cn_table.proofs.table.Table.operation_name.Goals as goal

pub returns : goal.returns
returns c = rw (← c.self.view_is, c.as_str.ensures.value) (name_at _ _ _ (rw (← c.self.view_is) at c.requires) c.index.ensures)
