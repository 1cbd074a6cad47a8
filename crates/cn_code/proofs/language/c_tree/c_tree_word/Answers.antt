use Rattle.std.proofs.Common.{ap, sym}
use Rattle.cn_code.specs.TreeCWords.{c_tree_word}
use Rattle.cn_code.proofs.language.c_tree.c_tree_word.Goals as goal

pub returns-in-LooksField : goal.returns-in-LooksField
unfolding c_tree_word
returns-in-LooksField c = sym (ap c_tree_word c.in-LooksField.is)

pub returns-in-LookField : goal.returns-in-LookField
unfolding c_tree_word
returns-in-LookField c = sym (ap c_tree_word c.in-LookField.is)

pub returns-in-LookEnd : goal.returns-in-LookEnd
unfolding c_tree_word
returns-in-LookEnd c = sym (ap c_tree_word c.in-LookEnd.is)

pub returns-in-NoLook : goal.returns-in-NoLook
unfolding c_tree_word
returns-in-NoLook c = sym (ap c_tree_word c.in-NoLook.is)

pub returns-in-LookName : goal.returns-in-LookName
unfolding c_tree_word
returns-in-LookName c = sym (ap c_tree_word c.in-LookName.is)

pub returns-in-JudgementField : goal.returns-in-JudgementField
unfolding c_tree_word
returns-in-JudgementField c = sym (ap c_tree_word c.in-JudgementField.is)

pub returns-in-JudgementNumber : goal.returns-in-JudgementNumber
unfolding c_tree_word
returns-in-JudgementNumber c = sym (ap c_tree_word c.in-JudgementNumber.is)
