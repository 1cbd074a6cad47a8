use Rattle.std.proofs.Common.{ap, sym}
use Rattle.cn_code.specs.CWords.{c_interface_word}
use Rattle.cn_code.proofs.language.c.c_interface_word.Goals as goal

pub returns-in-Object : goal.returns-in-Object
unfolding c_interface_word
returns-in-Object c = sym (ap c_interface_word c.in-Object.is)

pub returns-in-ObjectEnd : goal.returns-in-ObjectEnd
unfolding c_interface_word
returns-in-ObjectEnd c = sym (ap c_interface_word c.in-ObjectEnd.is)

pub returns-in-NodeEnd : goal.returns-in-NodeEnd
unfolding c_interface_word
returns-in-NodeEnd c = sym (ap c_interface_word c.in-NodeEnd.is)

pub returns-in-Status : goal.returns-in-Status
unfolding c_interface_word
returns-in-Status c = sym (ap c_interface_word c.in-Status.is)

pub returns-in-End : goal.returns-in-End
unfolding c_interface_word
returns-in-End c = sym (ap c_interface_word c.in-End.is)
