use Rattle.std.proofs.Common.{ap, sym}
use Rattle.cn_code.specs.CWords.{c_program_word}
use Rattle.cn_code.proofs.language.c.c_program_word.Goals as goal

pub returns-in-Object : goal.returns-in-Object
unfolding c_program_word
returns-in-Object c = sym (ap c_program_word c.in-Object.is)

pub returns-in-Node : goal.returns-in-Node
unfolding c_program_word
returns-in-Node c = sym (ap c_program_word c.in-Node.is)

pub returns-in-Steps : goal.returns-in-Steps
unfolding c_program_word
returns-in-Steps c = sym (ap c_program_word c.in-Steps.is)

pub returns-in-Take : goal.returns-in-Take
unfolding c_program_word
returns-in-Take c = sym (ap c_program_word c.in-Take.is)

pub returns-in-CheckEnd : goal.returns-in-CheckEnd
unfolding c_program_word
returns-in-CheckEnd c = sym (ap c_program_word c.in-CheckEnd.is)

pub returns-in-End : goal.returns-in-End
unfolding c_program_word
returns-in-End c = sym (ap c_program_word c.in-End.is)
