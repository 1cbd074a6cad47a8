use Rattle.cn_table.proofs.Closed.{table_closed}
use Rattle.cn_table.proofs.laws.tables_are_closed.Goals as goal

pub returns : goal.returns
returns c = table_closed
