-- A plan as a model in Promela: each process of the plan is a process there, which takes the four
-- actions at each place of its path and may stop before each.
-- Process p begins with the value p; 255 is an empty register, or no decision. States and responses
-- are numbers; only comments have names.
use Rattle.std.specs.Prelude.{ℕ, List, [], ◌∷◌, ◌++◌, ◌+◌, ◌==◌, codes, decimal, flat_map, length}
use Rattle.std.specs.Prelude.{if◌then◌else◌, slice_index_or}
use Rattle.std.specs.List.{concat, range_with_len}
use Rattle.cn_table.specs.Names.{name_at}
use Rattle.cn_choice.specs.TeamNames.{team_name}
use Rattle.cn_proto.specs.Plan.{Plan, processes_of, nodes_of, protocol_of}
use Rattle.cn_proto.specs.PlanText.{operation_name_of}
use Rattle.cn_proto.specs.declared.place.Place.{Place}
use Rattle.cn_plan_text.specs.Places.{place_at, places_of}

-- ---- what all processes share

-- for each node an object in the start state, and the registers of the two teams, which are empty
abbrev pub nodes_promela : Plan → List ℕ
nodes_promela plan =
    concat (codes "/* " ∷ plan.table.name ∷ codes " from "
    ∷ name_at plan.table.states plan.choice.state ∷ codes " */\nbyte object["
    ∷ decimal (nodes_of plan) ∷ codes "] = " ∷ decimal plan.choice.state ∷ codes ";\n" ∷ [])
    ++ concat (codes "byte written_A[" ∷ decimal (nodes_of plan) ∷ codes "] = 255;\nbyte written_B["
    ∷ decimal (nodes_of plan) ∷ codes "] = 255;\n" ∷ [])

-- the number of actions that each process has taken, and the decision; an action, before which a
-- process may stop; and that a decision is the value of a process that has moved, equals every other
-- decision, and comes with the last of the needed actions, which are 4(n-1) at most for n processes
unfoldable pub rules_promela : ℕ → List ℕ
rules_promela processes =
    concat (codes "byte taken[" ∷ decimal processes ∷ codes "];\nbyte agreed = 255;\n\n"
    ∷ codes "#define ACTION(p) if :: goto stopped :: taken[p]++ fi\n\n"
    ∷ codes "inline decide(p, value, needed) {\n"
    ∷ codes "    assert(value != 255);\n"
    ∷ codes "    assert(taken[value] > 0);\n"
    ∷ codes "    assert(agreed == 255 || agreed == value);\n"
    ∷ codes "    assert(taken[p] == needed && needed <= 4 * (" ∷ decimal processes
    ∷ codes " - 1));\n    agreed = value\n}\n" ∷ [])

-- ---- the actions of process p at a place

-- the place, with the names of the team and of the operation
abbrev pub stand_promela : Plan → Place → List ℕ
stand_promela plan place =
    concat (codes "    /* node " ∷ decimal place.node ∷ codes ", team " ∷ team_name place.team
    ∷ codes ", role " ∷ decimal place.role ∷ codes ": " ∷ operation_name_of plan place.role
    ∷ codes " */\n" ∷ [])

-- the first action: to write the value into the register of the team
abbrev pub write_promela : ℕ → Place → List ℕ
write_promela p place =
    concat (codes "    atomic { ACTION(" ∷ decimal p ∷ codes "); written_" ∷ team_name place.team
    ∷ codes "[" ∷ decimal place.node ∷ codes "] = value };\n" ∷ [])

-- in this state, the operation gives a response and leads to a state
abbrev pub effect_promela : ℕ → ℕ → ℕ × ℕ → List ℕ
effect_promela node state given =
    concat (codes " :: object[" ∷ decimal node ∷ codes "] == " ∷ decimal state
    ∷ codes " -> response = " ∷ decimal given.0 ∷ codes "; object[" ∷ decimal node
    ∷ codes "] = " ∷ decimal given.1 ∷ [])

-- the effect of the operation of the role in a state
abbrev pub row_promela : Plan → Place → ℕ → List ℕ
row_promela plan place state =
    effect_promela place.node state ((protocol_of plan).act place.role state)

-- the start of an action that is a selection
abbrev pub selection_promela : ℕ → List ℕ
selection_promela p = concat (codes "    atomic { ACTION(" ∷ decimal p ∷ codes "); if" ∷ [])

-- the end of the second action; then the third: to read the state
abbrev pub read_promela : ℕ → ℕ → List ℕ
read_promela p node =
    concat (codes " fi };\n    atomic { ACTION(" ∷ decimal p ∷ codes "); state = object["
    ∷ decimal node ∷ codes "] };\n" ∷ [])

-- the second action: to apply the operation; and the third
abbrev pub apply_promela : Plan → ℕ → Place → List ℕ
apply_promela plan p place =
    selection_promela p
    ++ flat_map (row_promela plan place) (range_with_len 0 (length plan.table.states))
    ++ read_promela p place.node

-- for this pair of a response and a state the process takes the register of team A
unfoldable pub pair_promela : ℕ → ℕ × ℕ → List ℕ
pair_promela node pair =
    concat (codes " :: response == " ∷ decimal pair.0 ∷ codes " && state == " ∷ decimal pair.1
    ∷ codes " -> value = written_A[" ∷ decimal node ∷ codes "]" ∷ [])

-- for every other pair it takes the register of team B
abbrev pub other_promela : ℕ → List ℕ
other_promela node =
    concat (codes " :: else -> value = written_B[" ∷ decimal node ∷ codes "] fi" ∷ [])

-- the fourth action: to take the value of the team that the role judges to have been first
abbrev pub take_promela : Plan → ℕ → Place → List ℕ
take_promela plan p place =
    selection_promela p
    ++ flat_map (pair_promela place.node) (slice_index_or plan.judged_pairs place.role [])
    ++ other_promela place.node

-- the decision of process p, whose path has this number of places
abbrev pub decide_promela : ℕ → ℕ → List ℕ
decide_promela p places =
    concat (codes "; decide(" ∷ decimal p ∷ codes ", value, 4 * " ∷ decimal places
    ∷ codes ") };\n" ∷ [])

-- the end of the fourth action at place i; with its last action a process decides
abbrev pub end_promela : Plan → ℕ → ℕ → List ℕ
end_promela plan p i =
    if i + 1 == places_of plan p then decide_promela p (places_of plan p) else codes " };\n"

-- the four actions at a place, the last without its end
unfoldable pub actions_promela : Plan → ℕ → Place → List ℕ
actions_promela plan p place =
    stand_promela plan place ++ write_promela p place ++ apply_promela plan p place
    ++ take_promela plan p place

-- the four actions at place i of the path of process p
abbrev pub place_promela : Plan → ℕ → ℕ → List ℕ
place_promela plan p i = actions_promela plan p (place_at plan p i) ++ end_promela plan p i

-- ---- processes

abbrev pub proctype_promela : ℕ → List ℕ
proctype_promela p =
    concat (codes "\nactive proctype process_" ∷ decimal p ∷ codes "() {\n    byte value = "
    ∷ decimal p ∷ codes ", response, state;\n" ∷ [])

-- process p, with the label at which it stops
abbrev pub process_promela : Plan → ℕ → List ℕ
process_promela plan p =
    proctype_promela p ++ flat_map (place_promela plan p) (range_with_len 0 (places_of plan p))
    ++ codes "stopped:\n    skip\n}\n"

unfoldable pub plan_promela : Plan → List ℕ
plan_promela plan =
    nodes_promela plan ++ rules_promela (processes_of plan)
    ++ flat_map (process_promela plan) (range_with_len 0 (processes_of plan))
