use Rattle.cn_table.proofs.Classes.{classes_table}
use Rattle.cn_table.proofs.fewer_states.classes_make_a_table.Goals as goal

pub returns : goal.returns
returns c = classes_table
