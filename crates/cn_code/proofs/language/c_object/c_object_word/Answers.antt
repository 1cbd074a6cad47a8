use Rattle.std.proofs.Common.{ap, sym}
use Rattle.cn_code.specs.ObjectCWords.{c_object_word}
use Rattle.cn_code.proofs.language.c_object.c_object_word.Goals as goal

pub returns-in-Title : goal.returns-in-Title
unfolding c_object_word
returns-in-Title c = sym (ap c_object_word c.in-Title.is)

pub returns-in-About : goal.returns-in-About
unfolding c_object_word
returns-in-About c = sym (ap c_object_word c.in-About.is)

pub returns-in-Full : goal.returns-in-Full
unfolding c_object_word
returns-in-Full c = sym (ap c_object_word c.in-Full.is)

pub returns-in-Interface : goal.returns-in-Interface
unfolding c_object_word
returns-in-Interface c = sym (ap c_object_word c.in-Interface.is)

pub returns-in-States : goal.returns-in-States
unfolding c_object_word
returns-in-States c = sym (ap c_object_word c.in-States.is)

pub returns-in-Operations : goal.returns-in-Operations
unfolding c_object_word
returns-in-Operations c = sym (ap c_object_word c.in-Operations.is)

pub returns-in-Responses : goal.returns-in-Responses
unfolding c_object_word
returns-in-Responses c = sym (ap c_object_word c.in-Responses.is)

pub returns-in-Transitions : goal.returns-in-Transitions
unfolding c_object_word
returns-in-Transitions c = sym (ap c_object_word c.in-Transitions.is)

pub returns-in-Start : goal.returns-in-Start
unfolding c_object_word
returns-in-Start c = sym (ap c_object_word c.in-Start.is)

pub returns-in-StartNumber : goal.returns-in-StartNumber
unfolding c_object_word
returns-in-StartNumber c = sym (ap c_object_word c.in-StartNumber.is)

pub returns-in-StartEnd : goal.returns-in-StartEnd
unfolding c_object_word
returns-in-StartEnd c = sym (ap c_object_word c.in-StartEnd.is)

pub returns-in-Universal : goal.returns-in-Universal
unfolding c_object_word
returns-in-Universal c = sym (ap c_object_word c.in-Universal.is)
