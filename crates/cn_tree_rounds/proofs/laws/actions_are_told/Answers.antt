use Rattle.cn_tree_rounds.proofs.Telling.{told}
use Rattle.cn_tree_rounds.proofs.laws.actions_are_told.Goals as goal

pub returns : goal.returns
returns c = told
