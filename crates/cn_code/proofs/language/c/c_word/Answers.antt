use Rattle.std.proofs.Common.{◌∙◌, ap, sym}
use Rattle.cn_code.specs.CWords.{c_word}
use Rattle.cn_code.proofs.language.c.c_word.Goals as goal

pub returns-in-Title : goal.returns-in-Title
unfolding c_word
returns-in-Title c = sym (ap c_word c.in-Title.is)

pub returns-in-TypeName : goal.returns-in-TypeName
unfolding c_word
returns-in-TypeName c = sym (ap c_word c.in-TypeName.is)

pub returns-in-Intro : goal.returns-in-Intro
unfolding c_word
returns-in-Intro c = sym (ap c_word c.in-Intro.is)

pub returns-in-Claims : goal.returns-in-Claims
unfolding c_word
returns-in-Claims c = sym (ap c_word c.in-Claims.is)

pub returns-in-Trust : goal.returns-in-Trust
unfolding c_word
returns-in-Trust c = sym (ap c_word c.in-Trust.is)

pub returns-in-Uses : goal.returns-in-Uses
unfolding c_word
returns-in-Uses c = sym (ap c_word c.in-Uses.is)

pub returns-in-Processes : goal.returns-in-Processes
unfolding c_word
returns-in-Processes c = sym (ap c_word c.in-Processes.is)

pub returns-in-Nodes : goal.returns-in-Nodes
unfolding c_word
returns-in-Nodes c = sym (ap c_word c.in-Nodes.is)

pub returns-in-Teams : goal.returns-in-Teams
unfolding c_word
returns-in-Teams c = sym (ap c_word c.in-Teams.is)

pub returns-in-Steps : goal.returns-in-Steps
unfolding c_word
returns-in-Steps c = sym (ap c_word c.in-Steps.is)

pub returns-in-States : goal.returns-in-States
unfolding c_word
returns-in-States c = sym (ap c_word c.in-States.is)

pub returns-in-Operations : goal.returns-in-Operations
unfolding c_word
returns-in-Operations c = sym (ap c_word c.in-Operations.is)

pub returns-in-Responses : goal.returns-in-Responses
unfolding c_word
returns-in-Responses c = sym (ap c_word c.in-Responses.is)

pub returns-in-Name : goal.returns-in-Name
unfolding c_word
returns-in-Name c = sym (ap c_word c.in-Name.is)

pub returns-in-NameNumber : goal.returns-in-NameNumber
unfolding c_word
returns-in-NameNumber c = sym (ap c_word c.in-NameNumber.is)

pub returns-in-Transitions : goal.returns-in-Transitions
unfolding c_word
returns-in-Transitions c = sym (ap c_word c.in-Transitions.is)

pub returns-in-TransitionRow : goal.returns-in-TransitionRow
unfolding c_word
returns-in-TransitionRow c = sym (ap c_word c.in-TransitionRow.is)

pub returns-in-TransitionResponse : goal.returns-in-TransitionResponse
unfolding c_word
returns-in-TransitionResponse c = sym (ap c_word c.in-TransitionResponse.is)

pub returns-in-TransitionNext : goal.returns-in-TransitionNext
unfolding c_word
returns-in-TransitionNext c = sym (ap c_word c.in-TransitionNext.is)

pub returns-in-TransitionEnd : goal.returns-in-TransitionEnd
unfolding c_word
returns-in-TransitionEnd c = sym (ap c_word c.in-TransitionEnd.is)

pub returns-in-TransitionName : goal.returns-in-TransitionName
unfolding c_word
returns-in-TransitionName c = sym (ap c_word c.in-TransitionName.is)

pub returns-in-Starts : goal.returns-in-Starts
unfolding c_word
returns-in-Starts c = sym (ap c_word c.in-Starts.is)

pub returns-in-StartState : goal.returns-in-StartState
unfolding c_word
returns-in-StartState c = sym (ap c_word c.in-StartState.is)

pub returns-in-StartNode : goal.returns-in-StartNode
unfolding c_word
returns-in-StartNode c = sym (ap c_word c.in-StartNode.is)

pub returns-in-StartName : goal.returns-in-StartName
unfolding c_word
returns-in-StartName c = sym (ap c_word c.in-StartName.is)

pub returns-in-Places : goal.returns-in-Places
unfolding c_word
returns-in-Places c = sym (ap c_word c.in-Places.is)

pub returns-in-PlaceLines : goal.returns-in-PlaceLines
unfolding c_word
returns-in-PlaceLines c = sym (ap c_word c.in-PlaceLines.is)

pub returns-in-ProcessField : goal.returns-in-ProcessField
unfolding c_word
returns-in-ProcessField c = sym (ap c_word c.in-ProcessField.is)

pub returns-in-NodeField : goal.returns-in-NodeField
unfolding c_word
returns-in-NodeField c = sym (ap c_word c.in-NodeField.is)

pub returns-in-TeamField : goal.returns-in-TeamField
unfolding c_word
returns-in-TeamField c = sym (ap c_word c.in-TeamField.is)

pub returns-in-OperationField : goal.returns-in-OperationField
unfolding c_word
returns-in-OperationField c = sym (ap c_word c.in-OperationField.is)

pub returns-in-OperationName : goal.returns-in-OperationName
unfolding c_word
returns-in-OperationName c = sym (ap c_word c.in-OperationName.is)

pub returns-in-JudgementStart : goal.returns-in-JudgementStart
unfolding c_word
returns-in-JudgementStart c = sym (ap c_word c.in-JudgementStart.is)

pub returns-in-JudgementEnd : goal.returns-in-JudgementEnd
unfolding c_word
returns-in-JudgementEnd c = sym (ap c_word c.in-JudgementEnd.is)

pub returns-in-TablesEnd : goal.returns-in-TablesEnd
unfolding c_word
returns-in-TablesEnd c = sym (ap c_word c.in-TablesEnd.is)

pub returns-in-LineEnd : goal.returns-in-LineEnd
unfolding c_word
returns-in-LineEnd c = sym (ap c_word c.in-LineEnd.is)

pub returns-in-Program : goal.returns-in-Program
unfolding c_word
returns-in-Program c = c.c_program_word.ensures ∙ sym (ap c_word c.in-Program.is)

pub returns-in-Interface : goal.returns-in-Interface
unfolding c_word
returns-in-Interface c = c.c_interface_word.ensures ∙ sym (ap c_word c.in-Interface.is)

pub returns-in-InObject : goal.returns-in-InObject
unfolding c_word
returns-in-InObject c = c.c_object_word.ensures ∙ sym (ap c_word c.in-InObject.is)

pub returns-in-InTournament : goal.returns-in-InTournament
unfolding c_word
returns-in-InTournament c = c.c_tournament_word.ensures ∙ sym (ap c_word c.in-InTournament.is)

pub returns-in-InTree : goal.returns-in-InTree
unfolding c_word
returns-in-InTree c = c.c_tree_word.ensures ∙ sym (ap c_word c.in-InTree.is)

pub returns-in-Own : goal.returns-in-Own
unfolding c_word
returns-in-Own c = c.c_own_word.ensures ∙ sym (ap c_word c.in-Own.is)
