-- The program of a plan: what all programs have in common, and between its parts what is of the
-- plan.
use Rattle.std.specs.Prelude.{ℕ, ◌*◌, ◌-◌, List, [], ◌++◌, length, codes, flat_map, Option}
use Rattle.std.specs.Prelude.{slice_index}
use Rattle.std.specs.List.{range_with_len}
use Rattle.cn_table.specs.Names.{name_at}
use Rattle.cn_choice.specs.Canonical.{raw_choice_of}
use Rattle.cn_choice.specs.TeamNames.{team_name}
use Rattle.cn_choice.specs.declared.team.Team.{Team as TeamOf}
use Rattle.cn_choice.specs.declared.team.Team.TheVariants.{A, B}
use Rattle.cn_proto.specs.Plan.{Plan, processes_of, nodes_of, protocol_of}
use Rattle.cn_proto.specs.PlanText.{operation_name_of}
use Rattle.cn_proto.specs.Protocol.{place_of}
use Rattle.cn_proto.specs.declared.place.Place.{Place}
use Rattle.cn_code.specs.Frame.{comma, counts_code, interface_code, intro_code, number_code}
use Rattle.cn_code.specs.Frame.{object_tables, own_word, places_word, program_code, start_line}
use Rattle.cn_code.specs.Frame.{table_code, text_code, title_code, word}
use Rattle.cn_code.specs.Naming.{named, naming_of, naming_with}
use Rattle.cn_code.specs.Served.{Served}
use Rattle.cn_code.specs.declared.frame.Counts.{Counts}
use Rattle.cn_code.specs.declared.language.Form.TheVariants.{Tournament}
use Rattle.cn_code.specs.declared.language.Language.{Language}
use Rattle.cn_code.specs.declared.language.Language.TheVariants.{Rust, C}
use Rattle.cn_code.specs.declared.language.OwnPart.TheVariants.{Judgements, Row, ResponseName}
use Rattle.cn_code.specs.declared.language.Part.TheVariants.{ProcessField, NodeField, TeamField}
use Rattle.cn_code.specs.declared.language.Part.TheVariants.{OperationField, OperationName}
use Rattle.cn_code.specs.declared.language.Part.TheVariants.{JudgementStart, JudgementEnd, LineEnd}
use Rattle.cn_code.specs.declared.language.Part.TheVariants.{InTournament, Own, Starts}
use Rattle.cn_code.specs.declared.language.TournamentPart.TheVariants.{RoleField, RoleNumber}
use Rattle.cn_code.specs.declared.language.TournamentPart.TheVariants.{RoleOperation, Team}
use Rattle.cn_code.specs.declared.names.Whose.TheVariants.{OfType}

-- ---- parts

-- a team as a value of the language
abbrev pub team_code : Language → TeamOf → List ℕ
team_code l team = text_code l (InTournament Team) (team_name team)

-- ---- the head

-- the numbers of the program: two teams meet at each node, and a process takes four steps at each
abbrev pub counts_of : Plan → Counts
counts_of plan = record {
  processes = processes_of plan;
  nodes = nodes_of plan;
  teams = 2;
  steps = 4 * (processes_of plan - 1);
}

-- up to the tables
abbrev pub head_code : Language → Plan → Option Served → List ℕ
head_code l plan object =
    title_code l plan.table.name (processes_of plan) object ++ intro_code l Tournament object
    ++ counts_code l (counts_of plan) ++ interface_code l Tournament object

-- ---- start states

-- the state in which the object of each node starts
abbrev pub starts_code : Language → Plan → List ℕ
starts_code l plan =
    word l Starts
    ++ flat_map (start_line l plan.table plan.choice.state) (range_with_len 0 (nodes_of plan))

-- ---- places

-- a process, its node and its team there
abbrev pub stand_code : Language → ℕ → Place → List ℕ
stand_code l p place =
    number_code l ProcessField p ++ number_code l NodeField place.node
    ++ word l TeamField ++ team_code l place.team

-- a role and its operation, and in a comment the name of the operation
abbrev pub act_code : Language → Plan → ℕ → List ℕ
act_code l plan role =
    number_code l (InTournament RoleField) role
    ++ number_code l OperationField (slice_index (raw_choice_of plan.choice).operations role)
    ++ text_code l OperationName (operation_name_of plan role) ++ word l LineEnd

-- place i of the path of process p
abbrev pub place_code : Language → Plan → ℕ → ℕ → List ℕ
place_code l plan p i = stand_code l p (place_of (protocol_of plan) p i)
    ++ act_code l plan (place_of (protocol_of plan) p i).role

abbrev pub path_code : Language → Plan → ℕ → List ℕ
path_code l plan p =
    flat_map (place_code l plan p) (range_with_len 0 (length ((protocol_of plan).path p)))

abbrev pub places_code : Language → Plan → List ℕ
places_code l plan =
    places_word l Tournament ++ flat_map (path_code l plan) (range_with_len 0 (processes_of plan))

-- ---- judgements

-- the team that a role judges to have come first, for a response and a state
abbrev pub first_team : Plan → ℕ → ℕ → ℕ → TeamOf
first_team plan role response state = (protocol_of plan).judge role response state

abbrev pub cell_code : Language → Plan → ℕ → ℕ → ℕ → List ℕ
cell_code l plan role response state =
    comma state ++ team_code l (first_team plan role response state)

-- the teams for all states
abbrev pub cells_code : Language → Plan → ℕ → ℕ → List ℕ
cells_code l plan role response =
    flat_map (cell_code l plan role response) (range_with_len 0 (length plan.table.states))

-- a text only for team A
abbrev pub if_a : TeamOf → List ℕ → List ℕ
if_a A text = text
if_a B text = []

-- the name of a state, if team A came first for it
abbrev pub state_of_a : Plan → ℕ → ℕ → ℕ → List ℕ
state_of_a plan role response state =
    if_a (first_team plan role response state) (codes " " ++ name_at plan.table.states state)

-- the names of the states for which team A came first
abbrev pub states_of_a : Plan → ℕ → ℕ → List ℕ
states_of_a plan role response =
    flat_map (state_of_a plan role response) (range_with_len 0 (length plan.table.states))

-- in a comment, the response and the states for which team A came first
abbrev pub response_code : Language → Plan → ℕ → ℕ → List ℕ
response_code l plan role response =
    text_code l (Own Tournament ResponseName) (name_at plan.table.responses response) ++ codes ":"
    ++ states_of_a plan role response ++ word l LineEnd

-- the judgements of a role for a response
abbrev pub row_code : Language → Plan → ℕ → ℕ → List ℕ
row_code l plan role response =
    own_word l Tournament Row ++ cells_code l plan role response ++ response_code l plan role response

abbrev pub rows_code : Language → Plan → ℕ → List ℕ
rows_code l plan role =
    flat_map (row_code l plan role) (range_with_len 0 (length plan.table.responses))

-- in a comment, a role and the name of its operation
abbrev pub role_head : Language → Plan → ℕ → List ℕ
role_head l plan role =
    number_code l (InTournament RoleNumber) role
    ++ text_code l (InTournament RoleOperation) (operation_name_of plan role)
    ++ word l JudgementStart

-- the judgements of a role
abbrev pub role_code : Language → Plan → ℕ → List ℕ
role_code l plan role = role_head l plan role ++ rows_code l plan role ++ word l JudgementEnd

abbrev pub judgements_code : Language → Plan → List ℕ
judgements_code l plan =
    own_word l Tournament Judgements ++ flat_map (role_code l plan) (range_with_len 0 (processes_of plan))

-- ---- the program

-- the tables of the type and of the plan
abbrev pub tables_code : Language → Plan → List ℕ
tables_code l plan =
    table_code l OfType plan.table ++ starts_code l plan ++ places_code l plan
    ++ judgements_code l plan

-- the program; in C with marks in the place of names
unfoldable pub code_text : Language → Plan → Option Served → List ℕ
code_text l plan object =
    head_code l plan object ++ tables_code l plan ++ object_tables l object
    ++ program_code l Tournament object

-- the program in Rust
abbrev pub rust_text : Plan → Option Served → List ℕ
rust_text plan object = code_text Rust plan object

-- the program in C, with a prefix or without one
abbrev pub c_text : Plan → Option Served → Option (List ℕ) → List ℕ
c_text plan object prefix = named (naming_of prefix) (code_text C plan object)

-- the header of the program in C with a prefix
abbrev pub header_text : Plan → Option Served → List ℕ → List ℕ
header_text plan object prefix = named (naming_with prefix) (head_code C plan object)
