-- A plan tree as a model in Promela: each process of the tree is a process there, which takes three
-- or four actions at each place of its path and may stop before each.
-- Process p begins with the value p; 255 is an empty register, or no decision. States, responses and
-- teams are numbers; only comments have names.
use Rattle.std.specs.Prelude.{ℕ, ◌+◌, ◌==◌, Bool, List, [], ◌∷◌, ◌++◌, codes, decimal, flat_map}
use Rattle.std.specs.Prelude.{if◌then◌else◌, length}
use Rattle.std.specs.List.{concat, range_with_len}
use Rattle.cn_table.specs.TypeTable.{TypeTable, transition}
use Rattle.cn_meetings.specs.Meeting.{act, looks}
use Rattle.cn_meetings.specs.Sights.{sight_of}
use Rattle.cn_meetings.specs.declared.sight.Sight.{Sight}
use Rattle.cn_meetings.specs.declared.sight.Sight.TheVariants.{Nothing, Response, State}
use Rattle.cn_trees.specs.Consensus.{steps_of}
use Rattle.cn_trees.specs.Tree.{Place, nodes_of, processes_of}
use Rattle.cn_tree_costs.specs.Cost.{cost}
use Rattle.cn_tree_plans.specs.Plan.{TreePlan, judged_at, tree_of}
use Rattle.cn_tree_plans.specs.declared.judged.Judged.{Judged}
use Rattle.cn_tree_text.specs.Places.{node_meeting, operation_at, place_at, place_count, sight_at, team_count}

-- ---- what all processes share

abbrev pub head_promela : TreePlan → List ℕ
head_promela plan =
    concat (codes "/* " ∷ plan.table.name ∷ codes " for " ∷ decimal (processes_of (tree_of plan))
    ∷ codes " processes */\n" ∷ [])

-- the register of a team, which is empty
abbrev pub register_promela : ℕ → ℕ → List ℕ
register_promela v team =
    concat (codes ", written_" ∷ decimal v ∷ codes "_" ∷ decimal team ∷ codes " = 255" ∷ [])

-- the object of a node, in its start state, and the registers of its teams
abbrev pub node_promela : TreePlan → ℕ → List ℕ
node_promela plan v =
    concat (codes "byte object_" ∷ decimal v ∷ codes " = " ∷ decimal (node_meeting plan v).start
    ∷ flat_map (register_promela v) (range_with_len 0 (team_count plan v))
    ∷ codes ";\n" ∷ [])

-- the number of actions that each process has taken, and the decision; an action, before which a
-- process may stop; and that a decision is the value of a process that has moved, equals every other
-- decision, and comes with the last of the needed actions, which are at most so many
unfoldable pub rules_promela : ℕ → ℕ → List ℕ
rules_promela processes most =
    concat (codes "byte taken[" ∷ decimal processes ∷ codes "];\nbyte agreed = 255;\n\n"
    ∷ codes "#define ACTION(p) if :: goto stopped :: taken[p]++ fi\n\n"
    ∷ codes "inline decide(p, value, needed) {\n"
    ∷ codes "    assert(value != 255);\n"
    ∷ codes "    assert(taken[value] > 0);\n"
    ∷ codes "    assert(agreed == 255 || agreed == value);\n"
    ∷ codes "    assert(taken[p] == needed && needed <= " ∷ decimal most
    ∷ codes ");\n    agreed = value\n}\n" ∷ [])

-- ---- the actions of process p at a place

-- the place, with the name of the operation
abbrev pub stand_promela : TreePlan → ℕ → Place → List ℕ
stand_promela plan p place =
    concat (codes "    /* node " ∷ decimal place.node ∷ codes ", team " ∷ decimal place.team
    ∷ codes ": " ∷ operation_at plan place.node p ∷ codes " */\n" ∷ [])

-- to write the value into the register of the team
abbrev pub write_promela : ℕ → Place → List ℕ
write_promela p place =
    concat (codes "    atomic { ACTION(" ∷ decimal p ∷ codes "); written_" ∷ decimal place.node
    ∷ codes "_" ∷ decimal place.team ∷ codes " = value };\n" ∷ [])

-- in this state, the operation gives a response and leads to a state
abbrev pub effect_promela : ℕ → ℕ → ℕ × ℕ → List ℕ
effect_promela node state given =
    concat (codes " :: object_" ∷ decimal node ∷ codes " == " ∷ decimal state
    ∷ codes " -> response = " ∷ decimal given.0 ∷ codes "; object_" ∷ decimal node
    ∷ codes " = " ∷ decimal given.1 ∷ [])

-- the effect of the operation of process p at a node in a state
abbrev pub row_promela : TreePlan → ℕ → ℕ → ℕ → List ℕ
row_promela plan p node state =
    effect_promela node state (act plan.table ((tree_of plan).meeting node) p state)

-- the start of an action that is a selection
abbrev pub selection_promela : ℕ → List ℕ
selection_promela p = concat (codes "    atomic { ACTION(" ∷ decimal p ∷ codes "); if" ∷ [])

-- to apply the operation
abbrev pub apply_promela : TreePlan → ℕ → ℕ → List ℕ
apply_promela plan p node =
    selection_promela p
    ++ flat_map (row_promela plan p node) (range_with_len 0 (length plan.table.states))
    ++ codes " fi };\n"

-- in this state, the operation of a look gives a response
abbrev pub answer_promela : TypeTable → ℕ → ℕ → ℕ → List ℕ
answer_promela t o node state =
    concat (codes " :: object_" ∷ decimal node ∷ codes " == " ∷ decimal state
    ∷ codes " -> saw = " ∷ decimal (transition t o state).0 ∷ [])

-- to look by an operation
abbrev pub answers_promela : TypeTable → ℕ → ℕ → ℕ → List ℕ
answers_promela t o p node =
    selection_promela p ++ flat_map (answer_promela t o node) (range_with_len 0 (length t.states))
    ++ codes " fi };\n"

-- to read the state
abbrev pub read_promela : ℕ → ℕ → List ℕ
read_promela p node =
    concat (codes "    atomic { ACTION(" ∷ decimal p ∷ codes "); saw = object_" ∷ decimal node
    ∷ codes " };\n" ∷ [])

-- to look at the object, where the processes of the node look
abbrev pub see_promela : TypeTable → Sight → ℕ → ℕ → List ℕ
see_promela t State p node = read_promela p node
see_promela t Nothing p node = []
see_promela t (Response o) p node = answers_promela t o.0 p node

-- where this is seen, if the process looks
abbrev pub saw_promela : Bool → ℕ → List ℕ
saw_promela looks saw = if looks then codes " && saw == " ++ decimal saw else []

-- the process takes the register of a team
unfoldable pub value_promela : ℕ → ℕ → List ℕ
value_promela node team =
    concat (codes " -> value = written_" ∷ decimal node ∷ codes "_" ∷ decimal team ∷ [])

-- for this response, where this is seen, the process takes the register of the judged team
unfoldable pub judged_promela : Bool → ℕ → Judged → List ℕ
judged_promela looks node j =
    codes " :: response == " ++ decimal j.response.0 ++ saw_promela looks j.saw
    ++ value_promela node j.team

-- to take the value of the team that process p judges to have been first; it gets nothing else
abbrev pub take_promela : Bool → ℕ → ℕ → List Judged → List ℕ
take_promela looks p node judged =
    selection_promela p ++ flat_map (judged_promela looks node) judged
    ++ codes " :: else -> assert(false) fi"

-- to look, if the process looks, and to take a value
abbrev pub look_promela : TreePlan → ℕ → ℕ → List ℕ
look_promela plan p node =
    see_promela plan.table (sight_at plan node) p node
    ++ take_promela (looks (sight_of (sight_at plan node))) p node (judged_at plan node p)

-- the actions at a place, the last without its end
unfoldable pub actions_promela : TreePlan → ℕ → Place → List ℕ
actions_promela plan p place =
    stand_promela plan p place ++ write_promela p place ++ apply_promela plan p place.node
    ++ look_promela plan p place.node

-- the decision of process p, with so many actions
abbrev pub decide_promela : ℕ → ℕ → List ℕ
decide_promela p steps =
    concat (codes "; decide(" ∷ decimal p ∷ codes ", value, " ∷ decimal steps ∷ codes ") };\n" ∷ [])

-- the end of the last action at place i; with its last action a process decides
abbrev pub end_promela : TreePlan → ℕ → ℕ → List ℕ
end_promela plan p i =
    if i + 1 == place_count plan p then decide_promela p (steps_of (tree_of plan) p) else codes " };\n"

-- the actions at place i of the path of process p
abbrev pub place_promela : TreePlan → ℕ → ℕ → List ℕ
place_promela plan p i = actions_promela plan p (place_at plan p i) ++ end_promela plan p i

-- ---- processes

abbrev pub proctype_promela : ℕ → List ℕ
proctype_promela p =
    concat (codes "\nactive proctype process_" ∷ decimal p ∷ codes "() {\n    byte value = "
    ∷ decimal p ∷ codes ", response, saw;\n" ∷ [])

-- process p, with the label at which it stops
abbrev pub process_promela : TreePlan → ℕ → List ℕ
process_promela plan p =
    proctype_promela p ++ flat_map (place_promela plan p) (range_with_len 0 (place_count plan p))
    ++ codes "stopped:\n    skip\n}\n"

unfoldable pub plan_promela : TreePlan → List ℕ
plan_promela plan =
    head_promela plan ++ flat_map (node_promela plan) (range_with_len 0 (nodes_of (tree_of plan)))
    ++ rules_promela (processes_of (tree_of plan)) (cost (tree_of plan)).steps
    ++ flat_map (process_promela plan) (range_with_len 0 (processes_of (tree_of plan)))
