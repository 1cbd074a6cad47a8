-- The text of the plan of a recording witness: a line for the whole plan, a line for each team with
-- the states that show it to have come first, a line for each role, and a line for each process.
use Rattle.std.specs.Prelude.{ℕ, zero, suc, ◌*◌, max, List, [], ◌∷◌, ◌++◌, codes, decimal, flat_map}
use Rattle.std.specs.Prelude.{length, map}
use Rattle.std.specs.List.{concat, range_with_len}
use Rattle.cn_table.specs.Names.{name_at}
use Rattle.cn_table.specs.Texts.{joined_texts}
use Rattle.cn_choice.specs.TeamNames.{team_name}
use Rattle.cn_choice.specs.declared.team.Team.{Team}
use Rattle.cn_choice.specs.declared.team.Team.TheVariants.{A, B}
use Rattle.cn_lives.specs.Plans.{RecordingPlan, judge}
use Rattle.cn_proto.specs.Plan.{Plan, nodes_of, processes_of, protocol_of}
use Rattle.cn_proto.specs.PlanText.{operation_name_of, place_text}
use Rattle.cn_proto.specs.Tournament.{team_of}
use Rattle.cn_plan_text.specs.Places.{places_of}

-- ---- own steps

-- the own steps within which process p decides in a life that does not end: 6 at each of its places
abbrev pub life_steps : RecordingPlan → ℕ → ℕ
life_steps plan p = 6 * places_of plan.plan p

-- the greatest number of these of the first n processes
abbrev pub most_of : RecordingPlan → ℕ → ℕ
most_of plan zero = 0
most_of plan (suc n) = max (most_of plan n) (life_steps plan n)

-- the greatest number of these of all processes
abbrev pub most_life_steps : RecordingPlan → ℕ
most_life_steps plan = most_of plan (processes_of plan.plan)

-- ---- lines

-- the type, the numbers of processes and nodes, and the state in which each object starts
abbrev pub type_text : Plan → List ℕ
type_text plan =
    codes "type " ++ plan.table.name ++ codes " processes " ++ decimal (processes_of plan)
    ++ codes " nodes " ++ decimal (nodes_of plan) ++ codes " start "
    ++ name_at plan.table.states plan.choice.state

-- the same, and the greatest number of own steps
abbrev pub head_line : RecordingPlan → List ℕ
head_line plan =
    concat (type_text plan.plan ∷ codes " steps " ∷ decimal (most_life_steps plan) ∷ codes "\n" ∷ [])

-- the text if both teams are one
abbrev pub if_same : Team → Team → List ℕ → List ℕ
if_same A A text = text
if_same A B text = []
if_same B A text = []
if_same B B text = text

-- a state, if it shows this team to have come first
abbrev pub judged_text : RecordingPlan → Team → ℕ → List ℕ
judged_text plan side q =
    if_same (judge plan q) side (codes " " ++ name_at plan.plan.table.states q)

-- the states that show this team to have come first, in order of their numbers
abbrev pub team_line : RecordingPlan → Team → List ℕ
team_line plan side =
    concat (codes "team " ∷ team_name side ∷ codes " first:"
    ∷ flat_map (judged_text plan side) (range_with_len 0 (length plan.plan.table.states))
    ∷ codes "\n" ∷ [])

-- the team of a role and its operation
abbrev pub role_line : RecordingPlan → ℕ → List ℕ
role_line plan role =
    concat (codes "role " ∷ decimal role ∷ codes " "
    ∷ team_name (team_of (length plan.plan.choice.a) role) ∷ codes " "
    ∷ operation_name_of plan.plan role ∷ codes "\n" ∷ [])

-- the own steps of process p, and its places, from its lowest node to the root
abbrev pub process_line : RecordingPlan → ℕ → List ℕ
process_line plan p =
    concat (codes "process " ∷ decimal p ∷ codes " steps " ∷ decimal (life_steps plan p)
    ∷ codes ": " ∷ joined_texts (codes ", ") (map place_text ((protocol_of plan.plan).path p))
    ∷ codes "\n" ∷ [])

unfoldable pub recording_plan_text : RecordingPlan → List ℕ
recording_plan_text plan =
    head_line plan ++ team_line plan A ++ team_line plan B
    ++ flat_map (role_line plan) (range_with_len 0 (processes_of plan.plan))
    ++ flat_map (process_line plan) (range_with_len 0 (processes_of plan.plan))
