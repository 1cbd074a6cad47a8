use Rattle.std.proofs.Common.{ap, sym}
use Rattle.cn_code.specs.ObjectRustWords.{rust_object_word}
use Rattle.cn_code.proofs.language.rust_object.rust_object_word.Goals as goal

pub returns-in-Title : goal.returns-in-Title
unfolding rust_object_word
returns-in-Title c = sym (ap rust_object_word c.in-Title.is)

pub returns-in-About : goal.returns-in-About
unfolding rust_object_word
returns-in-About c = sym (ap rust_object_word c.in-About.is)

pub returns-in-Full : goal.returns-in-Full
unfolding rust_object_word
returns-in-Full c = sym (ap rust_object_word c.in-Full.is)

pub returns-in-Interface : goal.returns-in-Interface
unfolding rust_object_word
returns-in-Interface c = sym (ap rust_object_word c.in-Interface.is)

pub returns-in-States : goal.returns-in-States
unfolding rust_object_word
returns-in-States c = sym (ap rust_object_word c.in-States.is)

pub returns-in-Operations : goal.returns-in-Operations
unfolding rust_object_word
returns-in-Operations c = sym (ap rust_object_word c.in-Operations.is)

pub returns-in-Responses : goal.returns-in-Responses
unfolding rust_object_word
returns-in-Responses c = sym (ap rust_object_word c.in-Responses.is)

pub returns-in-Transitions : goal.returns-in-Transitions
unfolding rust_object_word
returns-in-Transitions c = sym (ap rust_object_word c.in-Transitions.is)

pub returns-in-Start : goal.returns-in-Start
unfolding rust_object_word
returns-in-Start c = sym (ap rust_object_word c.in-Start.is)

pub returns-in-StartNumber : goal.returns-in-StartNumber
unfolding rust_object_word
returns-in-StartNumber c = sym (ap rust_object_word c.in-StartNumber.is)

pub returns-in-StartEnd : goal.returns-in-StartEnd
unfolding rust_object_word
returns-in-StartEnd c = sym (ap rust_object_word c.in-StartEnd.is)

pub returns-in-Universal : goal.returns-in-Universal
unfolding rust_object_word
returns-in-Universal c = sym (ap rust_object_word c.in-Universal.is)
