use Rattle.cn_tree_check.proofs.RangeLemmas.{right_in_range}
use Rattle.cn_tree_check.proofs.laws.right_certificates_are_read_back.Goals as goal

pub returns : goal.returns
returns c = λ t certificate known right.
    c.written_is_read_back.ensures.line certificate
    (right_in_range c.steps_of_plan_trees.ensures.most c.steps_of_plan_trees.ensures.levels t known certificate right.0 right.1)
