-- The program of a plan tree: what all programs have in common, and between its parts what is of the
-- plan.
use Rattle.std.specs.Prelude.{ℕ, Bool, true, false, List, ◌++◌, length, codes, decimal, flat_map}
use Rattle.std.specs.Prelude.{if◌then◌else◌, slice_index_or, [], Option}
use Rattle.std.specs.List.{range_with_len}
use Rattle.cn_table.specs.Names.{name_at}
use Rattle.cn_table.specs.TypeTable.{TypeTable, operation_names}
use Rattle.cn_meetings.specs.declared.sight.Sight.{Sight}
use Rattle.cn_meetings.specs.declared.sight.Sight.TheVariants.{Nothing, Response, State}
use Rattle.cn_trees.specs.Tree.{Place, nodes_of, path_of, place_of, processes_of}
use Rattle.cn_tree_costs.specs.Cost.{cost, greatest}
use Rattle.cn_tree_costs.specs.Nodes.{node_at}
use Rattle.cn_tree_costs.specs.Sizes.{sizes_of}
use Rattle.cn_tree_plans.specs.Plan.{TreePlan, no_meeting, tree_of}
use Rattle.cn_code.specs.Frame.{comma, counts_code, interface_code, intro_code, number_code}
use Rattle.cn_code.specs.Frame.{object_tables, own_word, places_word, program_code, start_line}
use Rattle.cn_code.specs.Frame.{table_code, text_code, title_code, word}
use Rattle.cn_code.specs.Naming.{named, naming_of, naming_with}
use Rattle.cn_code.specs.Served.{Served}
use Rattle.cn_code.specs.TreeJudgements.{columns, judges_of, looks, number_among, seat_of, sight_at}
use Rattle.cn_code.specs.TreeJudgements.{some_read, some_response, team_first}
use Rattle.cn_code.specs.declared.frame.Counts.{Counts}
use Rattle.cn_code.specs.declared.language.Form.{Form}
use Rattle.cn_code.specs.declared.language.Form.TheVariants.{LookTree, BlindTree}
use Rattle.cn_code.specs.declared.language.Form.TheVariants.{ResponseTree, MixedTree}
use Rattle.cn_code.specs.declared.language.Language.{Language}
use Rattle.cn_code.specs.declared.language.Language.TheVariants.{Rust, C}
use Rattle.cn_code.specs.declared.language.OwnPart.TheVariants.{Judgements, Row, ResponseName}
use Rattle.cn_code.specs.declared.language.Part.TheVariants.{ProcessField, NodeField, TeamField}
use Rattle.cn_code.specs.declared.language.Part.TheVariants.{OperationField, OperationName}
use Rattle.cn_code.specs.declared.language.Part.TheVariants.{JudgementStart, JudgementEnd, LineEnd}
use Rattle.cn_code.specs.declared.language.Part.TheVariants.{InTree, Own, Starts}
use Rattle.cn_code.specs.declared.language.TreePart.TheVariants.{LooksField, LookField, LookEnd}
use Rattle.cn_code.specs.declared.language.TreePart.TheVariants.{NoLook, LookName, JudgementField}
use Rattle.cn_code.specs.declared.language.TreePart.TheVariants.{JudgementNumber}
use Rattle.cn_code.specs.declared.names.Whose.TheVariants.{OfType}
use Rattle.cn_code.specs.declared.tree.seats.Seat.{Seat}

-- the form of the program of a plan tree
abbrev pub form_of : TreePlan → Form
form_of plan =
    if some_response plan then (if some_read plan then MixedTree else ResponseTree)
    else (if some_read plan then LookTree else BlindTree)

-- ---- the head

-- the number of teams of node v
abbrev pub teams_at : TreePlan → ℕ → ℕ
teams_at plan v = length (sizes_of (node_at plan.teams v).teams)

abbrev pub most_teams : TreePlan → ℕ
most_teams plan = greatest (teams_at plan) (nodes_of (tree_of plan))

-- the numbers of the program
abbrev pub tree_counts : TreePlan → Counts
tree_counts plan = record {
  processes = processes_of (tree_of plan);
  nodes = nodes_of (tree_of plan);
  teams = most_teams plan;
  steps = (cost (tree_of plan)).steps;
}

-- up to the tables
abbrev pub tree_head : Language → TreePlan → Option Served → List ℕ
tree_head l plan object =
    title_code l plan.table.name (processes_of (tree_of plan)) object
    ++ intro_code l (form_of plan) object ++ counts_code l (tree_counts plan)
    ++ interface_code l (form_of plan) object

-- ---- start states

abbrev pub start_at : TreePlan → ℕ → ℕ
start_at plan v = (slice_index_or plan.meetings v no_meeting).start

abbrev pub tree_start : Language → TreePlan → ℕ → List ℕ
tree_start l plan v = start_line l plan.table (start_at plan v) v

-- the state in which the object of each node starts
abbrev pub tree_starts : Language → TreePlan → List ℕ
tree_starts l plan =
    word l Starts
    ++ flat_map (tree_start l plan) (range_with_len 0 (nodes_of (tree_of plan)))

-- ---- places

abbrev pub truth : Bool → List ℕ
truth true = codes "true"
truth false = codes "false"

-- whether a process looks, if some process reads
abbrev pub looks_code : Language → TreePlan → Seat → List ℕ
looks_code l plan x =
    if some_read plan then text_code l (InTree LooksField) (truth (looks plan x)) else []

-- the operation by which a process looks, or that it looks by none
abbrev pub sight_code : Language → Sight → List ℕ
sight_code l State = word l (InTree NoLook)
sight_code l Nothing = word l (InTree NoLook)
sight_code l (Response o) = number_code l (InTree LookField) o.0 ++ word l (InTree LookEnd)

-- this, if some process looks by an operation
abbrev pub look_code : Language → TreePlan → Seat → List ℕ
look_code l plan x = if some_response plan then sight_code l (sight_at plan x.node) else []

-- the name of the operation by which a process looks, if it does
abbrev pub look_name : Language → TypeTable → Sight → List ℕ
look_name l t State = []
look_name l t Nothing = []
look_name l t (Response o) = text_code l (InTree LookName) (name_at (operation_names t) o.0)

-- a process, its node and its team there
abbrev pub tree_stand : Language → ℕ → Place → List ℕ
tree_stand l p place =
    number_code l ProcessField p ++ number_code l NodeField place.node
    ++ number_code l TeamField place.team

abbrev pub operation_of : TreePlan → Seat → ℕ
operation_of plan x = ((tree_of plan).meeting x.node).operation x.process

-- in a comment the name of its operation, and that of the operation by which it looks
abbrev pub act_names : Language → TreePlan → Seat → List ℕ
act_names l plan x =
    text_code l OperationName (name_at (operation_names plan.table) (operation_of plan x))
    ++ look_name l plan.table (sight_at plan x.node) ++ word l LineEnd

-- its judgement, and these names
abbrev pub judged_code : Language → TreePlan → List Seat → Seat → List ℕ
judged_code l plan judges x =
    number_code l (InTree JudgementField) (number_among plan judges x) ++ act_names l plan x

-- whether it looks, and by which operation
abbrev pub sight_fields : Language → TreePlan → Seat → List ℕ
sight_fields l plan x = looks_code l plan x ++ look_code l plan x

-- its operation, how it looks, and its judgement
abbrev pub tree_act : Language → TreePlan → List Seat → Seat → List ℕ
tree_act l plan judges x =
    number_code l OperationField (operation_of plan x) ++ sight_fields l plan x
    ++ judged_code l plan judges x

-- place i of the path of process p
abbrev pub tree_place : Language → TreePlan → List Seat → ℕ → ℕ → List ℕ
tree_place l plan judges p i =
    tree_stand l p (place_of (tree_of plan) p i) ++ tree_act l plan judges (seat_of plan p i)

abbrev pub tree_path : Language → TreePlan → List Seat → ℕ → List ℕ
tree_path l plan judges p =
    flat_map (tree_place l plan judges p)
    (range_with_len 0 (length (path_of (tree_of plan) p)))

abbrev pub tree_places : Language → TreePlan → List Seat → List ℕ
tree_places l plan judges =
    places_word l (form_of plan)
    ++ flat_map (tree_path l plan judges) (range_with_len 0 (processes_of (tree_of plan)))

-- ---- judgements

abbrev pub tree_cell : TreePlan → Seat → ℕ → ℕ → List ℕ
tree_cell plan x response saw = comma saw ++ decimal (team_first plan x response saw)

-- the teams for all that a process can see
abbrev pub tree_cells : TreePlan → Seat → ℕ → List ℕ
tree_cells plan x response =
    flat_map (tree_cell plan x response) (range_with_len 0 (columns plan x))

-- the teams for a response, and in a comment its name
abbrev pub tree_row : Language → TreePlan → Seat → ℕ → List ℕ
tree_row l plan x response =
    own_word l (form_of plan) Row ++ tree_cells plan x response
    ++ text_code l (Own (form_of plan) ResponseName) (name_at plan.table.responses response)
    ++ word l LineEnd

abbrev pub tree_rows : Language → TreePlan → Seat → List ℕ
tree_rows l plan x =
    flat_map (tree_row l plan x) (range_with_len 0 (length plan.table.responses))

-- the judgement of a process, with its number in a comment
abbrev pub judgement_code : Language → TreePlan → Seat → ℕ → List ℕ
judgement_code l plan x number =
    number_code l (InTree JudgementNumber) number ++ word l JudgementStart
    ++ tree_rows l plan x ++ word l JudgementEnd

abbrev pub no_seat : Seat
no_seat = record { node = 0; process = 0 }

abbrev pub judgement_at : Language → TreePlan → List Seat → ℕ → List ℕ
judgement_at l plan judges number =
    judgement_code l plan (slice_index_or judges number no_seat) number

abbrev pub tree_judgements : Language → TreePlan → List Seat → List ℕ
tree_judgements l plan judges =
    own_word l (form_of plan) Judgements
    ++ flat_map (judgement_at l plan judges) (range_with_len 0 (length judges))

-- ---- the program

-- the table of the type, and the start states
abbrev pub tree_type : Language → TreePlan → List ℕ
tree_type l plan = table_code l OfType plan.table ++ tree_starts l plan

-- the places and the judgements, the tables of the object, and the algorithm
abbrev pub tree_tables : Language → TreePlan → Option Served → List Seat → List ℕ
tree_tables l plan object judges =
    tree_places l plan judges ++ tree_judgements l plan judges ++ object_tables l object
    ++ program_code l (form_of plan) object

-- all behind the head
abbrev pub tree_body : Language → TreePlan → Option Served → List Seat → List ℕ
tree_body l plan object judges = tree_type l plan ++ tree_tables l plan object judges

-- the program, with these judgements
abbrev pub text_with : Language → TreePlan → Option Served → List Seat → List ℕ
text_with l plan object judges = tree_head l plan object ++ tree_body l plan object judges

-- the program; in C with marks in the place of names
unfoldable pub tree_text : Language → TreePlan → Option Served → List ℕ
tree_text l plan object = text_with l plan object (judges_of plan)

-- the program in Rust
abbrev pub tree_rust_text : TreePlan → Option Served → List ℕ
tree_rust_text plan object = tree_text Rust plan object

-- the program in C, with a prefix or without one
abbrev pub tree_c_text : TreePlan → Option Served → Option (List ℕ) → List ℕ
tree_c_text plan object prefix = named (naming_of prefix) (tree_text C plan object)

-- the header of the program in C with a prefix
abbrev pub tree_header_text : TreePlan → Option Served → List ℕ → List ℕ
tree_header_text plan object prefix = named (naming_with prefix) (tree_head C plan object)
