use Rattle.std.proofs.Common.{◌∙◌, ap, sym}
use Rattle.cn_code.specs.RustWords.{rust_word}
use Rattle.cn_code.proofs.language.rust.rust_word.Goals as goal

pub returns-in-Title : goal.returns-in-Title
unfolding rust_word
returns-in-Title c = sym (ap rust_word c.in-Title.is)

pub returns-in-TypeName : goal.returns-in-TypeName
unfolding rust_word
returns-in-TypeName c = sym (ap rust_word c.in-TypeName.is)

pub returns-in-Intro : goal.returns-in-Intro
unfolding rust_word
returns-in-Intro c = sym (ap rust_word c.in-Intro.is)

pub returns-in-Claims : goal.returns-in-Claims
unfolding rust_word
returns-in-Claims c = sym (ap rust_word c.in-Claims.is)

pub returns-in-Trust : goal.returns-in-Trust
unfolding rust_word
returns-in-Trust c = sym (ap rust_word c.in-Trust.is)

pub returns-in-Uses : goal.returns-in-Uses
unfolding rust_word
returns-in-Uses c = sym (ap rust_word c.in-Uses.is)

pub returns-in-Processes : goal.returns-in-Processes
unfolding rust_word
returns-in-Processes c = sym (ap rust_word c.in-Processes.is)

pub returns-in-Nodes : goal.returns-in-Nodes
unfolding rust_word
returns-in-Nodes c = sym (ap rust_word c.in-Nodes.is)

pub returns-in-Teams : goal.returns-in-Teams
unfolding rust_word
returns-in-Teams c = sym (ap rust_word c.in-Teams.is)

pub returns-in-Steps : goal.returns-in-Steps
unfolding rust_word
returns-in-Steps c = sym (ap rust_word c.in-Steps.is)

pub returns-in-States : goal.returns-in-States
unfolding rust_word
returns-in-States c = sym (ap rust_word c.in-States.is)

pub returns-in-Operations : goal.returns-in-Operations
unfolding rust_word
returns-in-Operations c = sym (ap rust_word c.in-Operations.is)

pub returns-in-Responses : goal.returns-in-Responses
unfolding rust_word
returns-in-Responses c = sym (ap rust_word c.in-Responses.is)

pub returns-in-Name : goal.returns-in-Name
unfolding rust_word
returns-in-Name c = sym (ap rust_word c.in-Name.is)

pub returns-in-NameNumber : goal.returns-in-NameNumber
unfolding rust_word
returns-in-NameNumber c = sym (ap rust_word c.in-NameNumber.is)

pub returns-in-Transitions : goal.returns-in-Transitions
unfolding rust_word
returns-in-Transitions c = sym (ap rust_word c.in-Transitions.is)

pub returns-in-TransitionRow : goal.returns-in-TransitionRow
unfolding rust_word
returns-in-TransitionRow c = sym (ap rust_word c.in-TransitionRow.is)

pub returns-in-TransitionResponse : goal.returns-in-TransitionResponse
unfolding rust_word
returns-in-TransitionResponse c = sym (ap rust_word c.in-TransitionResponse.is)

pub returns-in-TransitionNext : goal.returns-in-TransitionNext
unfolding rust_word
returns-in-TransitionNext c = sym (ap rust_word c.in-TransitionNext.is)

pub returns-in-TransitionEnd : goal.returns-in-TransitionEnd
unfolding rust_word
returns-in-TransitionEnd c = sym (ap rust_word c.in-TransitionEnd.is)

pub returns-in-TransitionName : goal.returns-in-TransitionName
unfolding rust_word
returns-in-TransitionName c = sym (ap rust_word c.in-TransitionName.is)

pub returns-in-Starts : goal.returns-in-Starts
unfolding rust_word
returns-in-Starts c = sym (ap rust_word c.in-Starts.is)

pub returns-in-StartState : goal.returns-in-StartState
unfolding rust_word
returns-in-StartState c = sym (ap rust_word c.in-StartState.is)

pub returns-in-StartNode : goal.returns-in-StartNode
unfolding rust_word
returns-in-StartNode c = sym (ap rust_word c.in-StartNode.is)

pub returns-in-StartName : goal.returns-in-StartName
unfolding rust_word
returns-in-StartName c = sym (ap rust_word c.in-StartName.is)

pub returns-in-Places : goal.returns-in-Places
unfolding rust_word
returns-in-Places c = sym (ap rust_word c.in-Places.is)

pub returns-in-PlaceLines : goal.returns-in-PlaceLines
unfolding rust_word
returns-in-PlaceLines c = sym (ap rust_word c.in-PlaceLines.is)

pub returns-in-ProcessField : goal.returns-in-ProcessField
unfolding rust_word
returns-in-ProcessField c = sym (ap rust_word c.in-ProcessField.is)

pub returns-in-NodeField : goal.returns-in-NodeField
unfolding rust_word
returns-in-NodeField c = sym (ap rust_word c.in-NodeField.is)

pub returns-in-TeamField : goal.returns-in-TeamField
unfolding rust_word
returns-in-TeamField c = sym (ap rust_word c.in-TeamField.is)

pub returns-in-OperationField : goal.returns-in-OperationField
unfolding rust_word
returns-in-OperationField c = sym (ap rust_word c.in-OperationField.is)

pub returns-in-OperationName : goal.returns-in-OperationName
unfolding rust_word
returns-in-OperationName c = sym (ap rust_word c.in-OperationName.is)

pub returns-in-JudgementStart : goal.returns-in-JudgementStart
unfolding rust_word
returns-in-JudgementStart c = sym (ap rust_word c.in-JudgementStart.is)

pub returns-in-JudgementEnd : goal.returns-in-JudgementEnd
unfolding rust_word
returns-in-JudgementEnd c = sym (ap rust_word c.in-JudgementEnd.is)

pub returns-in-TablesEnd : goal.returns-in-TablesEnd
unfolding rust_word
returns-in-TablesEnd c = sym (ap rust_word c.in-TablesEnd.is)

pub returns-in-LineEnd : goal.returns-in-LineEnd
unfolding rust_word
returns-in-LineEnd c = sym (ap rust_word c.in-LineEnd.is)

pub returns-in-Program : goal.returns-in-Program
unfolding rust_word
returns-in-Program c = c.rust_program_word.ensures ∙ sym (ap rust_word c.in-Program.is)

pub returns-in-Interface : goal.returns-in-Interface
unfolding rust_word
returns-in-Interface c = sym (ap rust_word c.in-Interface.is)

pub returns-in-InObject : goal.returns-in-InObject
unfolding rust_word
returns-in-InObject c = c.rust_object_word.ensures ∙ sym (ap rust_word c.in-InObject.is)

pub returns-in-InTournament : goal.returns-in-InTournament
unfolding rust_word
returns-in-InTournament c = c.rust_tournament_word.ensures ∙ sym (ap rust_word c.in-InTournament.is)

pub returns-in-InTree : goal.returns-in-InTree
unfolding rust_word
returns-in-InTree c = c.rust_tree_word.ensures ∙ sym (ap rust_word c.in-InTree.is)

pub returns-in-Own : goal.returns-in-Own
unfolding rust_word
returns-in-Own c = c.rust_own_word.ensures ∙ sym (ap rust_word c.in-Own.is)
