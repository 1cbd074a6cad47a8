use Rattle.cn_tree_check.proofs.RightLemmas.{one_tree}
use Rattle.cn_tree_check.proofs.laws.certificates_tell_one_tree.Goals as goal

pub returns : goal.returns
returns c = λ certificate s r one other. one_tree certificate s r one other
