-- What the programs of plans and of plan trees have in common: the parts of a language, and between
-- them what is of the plan. Names stand in texts and comments alone.
use Rattle.std.specs.Prelude.{ℕ, zero, suc, List, [], ◌∷◌, ◌++◌, length, codes, decimal, flat_map}
use Rattle.std.specs.Prelude.{Option, None, Some}
use Rattle.std.specs.List.{range_with_len}
use Rattle.cn_table.specs.Names.{name_at}
use Rattle.cn_table.specs.TypeTable.{TypeTable, operation_names, transition}
use Rattle.cn_code.specs.CWords.{c_word}
use Rattle.cn_code.specs.RustWords.{rust_word}
use Rattle.cn_code.specs.Served.{Served}
use Rattle.cn_code.specs.declared.frame.Counts.{Counts}
use Rattle.cn_code.specs.declared.language.Form.{Form}
use Rattle.cn_code.specs.declared.language.InterfacePart.TheVariants.{NodeEnd, Status}
use Rattle.cn_code.specs.declared.language.InterfacePart.TheVariants.{Object as IObject, ObjectEnd, End as IEnd}
use Rattle.cn_code.specs.declared.language.Language.{Language}
use Rattle.cn_code.specs.declared.language.Language.TheVariants.{Rust, C}
use Rattle.cn_code.specs.declared.language.ObjectPart.{ObjectPart}
use Rattle.cn_code.specs.declared.language.ObjectPart.TheVariants.{About, Full, Start, StartNumber}
use Rattle.cn_code.specs.declared.language.ObjectPart.TheVariants.{StartEnd, Universal}
use Rattle.cn_code.specs.declared.language.ObjectPart.TheVariants.{Interface as OInterface}
use Rattle.cn_code.specs.declared.language.ObjectPart.TheVariants.{States as OStates}
use Rattle.cn_code.specs.declared.language.ObjectPart.TheVariants.{Operations as OOperations}
use Rattle.cn_code.specs.declared.language.ObjectPart.TheVariants.{Responses as OResponses}
use Rattle.cn_code.specs.declared.language.ObjectPart.TheVariants.{Title as OTitle}
use Rattle.cn_code.specs.declared.language.ObjectPart.TheVariants.{Transitions as OTransitions}
use Rattle.cn_code.specs.declared.language.OwnPart.{OwnPart}
use Rattle.cn_code.specs.declared.language.OwnPart.TheVariants.{Meet, Bound, Read, Figure, Place}
use Rattle.cn_code.specs.declared.language.OwnPart.TheVariants.{Judge, CheckOperation}
use Rattle.cn_code.specs.declared.language.Part.{Part}
use Rattle.cn_code.specs.declared.language.Part.TheVariants.{Title, TypeName, Intro, Claims, Trust}
use Rattle.cn_code.specs.declared.language.Part.TheVariants.{Uses, Processes, Nodes, Teams, Steps}
use Rattle.cn_code.specs.declared.language.Part.TheVariants.{States, Operations, Responses, Name}
use Rattle.cn_code.specs.declared.language.Part.TheVariants.{NameNumber, Transitions, TransitionRow}
use Rattle.cn_code.specs.declared.language.Part.TheVariants.{TransitionResponse, TransitionNext}
use Rattle.cn_code.specs.declared.language.Part.TheVariants.{TransitionEnd, TransitionName}
use Rattle.cn_code.specs.declared.language.Part.TheVariants.{StartState, StartNode, StartName}
use Rattle.cn_code.specs.declared.language.Part.TheVariants.{Places, PlaceLines, TablesEnd, LineEnd}
use Rattle.cn_code.specs.declared.language.Part.TheVariants.{Program, Interface, InObject, Own}
use Rattle.cn_code.specs.declared.language.ProgramPart.{ProgramPart}
use Rattle.cn_code.specs.declared.language.ProgramPart.TheVariants.{Object, Node, Take, CheckEnd}
use Rattle.cn_code.specs.declared.language.ProgramPart.TheVariants.{End, Steps as PSteps}
use Rattle.cn_code.specs.declared.names.Kind.{Kind}
use Rattle.cn_code.specs.declared.names.Kind.TheVariants.{State, Operation, Response}
use Rattle.cn_code.specs.declared.names.Whose.{Whose}
use Rattle.cn_code.specs.declared.names.Whose.TheVariants.{OfType, OfObject}

-- ---- parts

-- the text of a language for a part
unfoldable pub word : Language → Part → List ℕ
word Rust part = rust_word part
word C part = c_word part

-- the text that a form has for itself
abbrev pub own_word : Language → Form → OwnPart → List ℕ
own_word l form part = word l (Own form part)

-- a text of the objects, the registers and the algorithm
abbrev pub program_word : Language → ProgramPart → List ℕ
program_word l part = word l (Program part)

-- a part, and a number behind it
abbrev pub number_code : Language → Part → ℕ → List ℕ
number_code l part number = word l part ++ decimal number

-- a part, and a text behind it
abbrev pub text_code : Language → Part → List ℕ → List ℕ
text_code l part text = word l part ++ text

-- a comma before each item but the first
abbrev pub comma : ℕ → List ℕ
comma zero = []
comma (suc k) = codes ", "

-- a text that a program has only if it serves an object
abbrev pub if_served : Option Served → List ℕ → List ℕ
if_served None text = []
if_served (Some served) text = text

-- ---- the head

-- in the first line, the name of the object that is served
abbrev pub served_name : Language → Option Served → List ℕ
served_name l None = []
served_name l (Some served) = text_code l (InObject OTitle) served.table.name

-- the first line: the number of processes, and the names of the type and of the object
abbrev pub title_code : Language → List ℕ → ℕ → Option Served → List ℕ
title_code l name processes object =
    number_code l Title processes ++ text_code l TypeName name ++ served_name l object

-- what the program is, up to the first constant
abbrev pub intro_code : Language → Form → Option Served → List ℕ
intro_code l form object =
    word l Intro ++ own_word l form Meet ++ word l Claims ++ own_word l form Bound ++ word l Trust
    ++ if_served object (word l (InObject About)) ++ word l Uses

-- the numbers of processes, of nodes, of teams and of steps
abbrev pub counts_code : Language → Counts → List ℕ
counts_code l counts =
    number_code l Processes counts.processes ++ number_code l Nodes counts.nodes
    ++ number_code l Teams counts.teams ++ number_code l Steps counts.steps

-- in C what a header declares
abbrev pub interface_code : Language → Form → Option Served → List ℕ
interface_code Rust form object = []
interface_code C form object =
    word C (Interface IObject) ++ own_word C form Read ++ word C (Interface ObjectEnd)
    ++ own_word C form Figure ++ word C (Interface NodeEnd)
    ++ if_served object (word C (InObject Full)) ++ word C (Interface Status)
    ++ if_served object (word C (InObject OInterface)) ++ word C (Interface IEnd)

-- ---- names and transitions

-- every name of a type
abbrev pub names_in : TypeTable → List (List ℕ)
names_in t = t.name ∷ t.states ++ operation_names t ++ t.responses

abbrev pub names_of : TypeTable → Kind → List (List ℕ)
names_of t State = t.states
names_of t Operation = operation_names t
names_of t Response = t.responses

-- the part before the names, of the type and of the object that is served
abbrev pub type_part : Kind → Part
type_part State = States
type_part Operation = Operations
type_part Response = Responses

abbrev pub object_part : Kind → ObjectPart
object_part State = OStates
object_part Operation = OOperations
object_part Response = OResponses

abbrev pub part_of : Whose → Kind → Part
part_of OfType kind = type_part kind
part_of OfObject kind = InObject (object_part kind)

-- the part before the transitions
abbrev pub transitions_of : Whose → Part
transitions_of OfType = Transitions
transitions_of OfObject = InObject OTransitions

-- a name, and its number in a comment
abbrev pub name_line : Language → List (List ℕ) → ℕ → List ℕ
name_line l names number =
    text_code l Name (name_at names number) ++ number_code l NameNumber number ++ word l LineEnd

abbrev pub name_lines : Language → List (List ℕ) → List ℕ
name_lines l names = flat_map (name_line l names) (range_with_len 0 (length names))

abbrev pub names_code : Language → Whose → TypeTable → Kind → List ℕ
names_code l whose t kind = word l (part_of whose kind) ++ name_lines l (names_of t kind)

-- the names of the states, of the operations and of the responses
abbrev pub all_names : Language → Whose → TypeTable → List ℕ
all_names l whose t = names_code l whose t State ++ names_code l whose t Operation
    ++ names_code l whose t Response

-- the response of an operation in a state, and the next state
abbrev pub transition_cell : Language → TypeTable → ℕ → ℕ → List ℕ
transition_cell l t operation state =
    comma state ++ number_code l TransitionResponse (transition t operation state).0
    ++ number_code l TransitionNext (transition t operation state).1 ++ word l TransitionEnd

abbrev pub transition_cells : Language → TypeTable → ℕ → List ℕ
transition_cells l t operation =
    flat_map (transition_cell l t operation) (range_with_len 0 (length t.states))

-- the transitions of an operation, and in a comment its name
abbrev pub transition_row : Language → TypeTable → ℕ → List ℕ
transition_row l t operation =
    word l TransitionRow ++ transition_cells l t operation
    ++ text_code l TransitionName (name_at (operation_names t) operation) ++ word l LineEnd

abbrev pub transitions_code : Language → Whose → TypeTable → List ℕ
transitions_code l whose t =
    word l (transitions_of whose)
    ++ flat_map (transition_row l t) (range_with_len 0 (length t.operations))

-- the names and the transitions of a table
abbrev pub table_code : Language → Whose → TypeTable → List ℕ
table_code l whose t = all_names l whose t ++ transitions_code l whose t

-- ---- start states and places

-- the state in which the object of a node starts, and in a comment the node and the name of the state
abbrev pub start_line : Language → TypeTable → ℕ → ℕ → List ℕ
start_line l t start node =
    number_code l StartState start ++ number_code l StartNode node
    ++ text_code l StartName (name_at t.states start) ++ word l LineEnd

-- up to the lines of the places
abbrev pub places_word : Language → Form → List ℕ
places_word l form =
    own_word l form Place ++ word l Places ++ own_word l form Figure ++ word l PlaceLines

-- ---- the object that is served

-- its names and its transitions, and the state in which it starts
abbrev pub served_tables : Language → Served → List ℕ
served_tables l served =
    table_code l OfObject served.table
    ++ text_code l (InObject Start) (name_at served.table.states served.start)
    ++ number_code l (InObject StartNumber) served.start ++ word l (InObject StartEnd)

-- the end of the tables: those of the object, if one is served
abbrev pub object_tables : Language → Option Served → List ℕ
object_tables l None = word l TablesEnd
object_tables l (Some served) = served_tables l served

-- ---- the algorithm

-- in Rust the object and the node
abbrev pub object_code : Language → Form → List ℕ
object_code Rust form = own_word Rust form Read ++ program_word Rust Node
    ++ own_word Rust form Figure ++ program_word Rust PSteps
object_code C form = []

-- from the check of an operation to the end of the file
abbrev pub program_end : Language → Option Served → List ℕ
program_end l object = program_word l CheckEnd ++ if_served object (word l (InObject Universal))
    ++ program_word l End

-- the objects, the registers and the algorithm
abbrev pub program_code : Language → Form → Option Served → List ℕ
program_code l form object =
    program_word l Object ++ object_code l form ++ own_word l form Judge ++ program_word l Take
    ++ own_word l form CheckOperation ++ program_end l object
