use Rattle.cn_table.proofs.Spelling.{spelled}
use Rattle.cn_table.proofs.laws.spelled_tables.Goals as goal

pub returns : goal.returns
returns c = spelled
