-- A plan as a picture for Graphviz: the tournament, with each process below its lowest node. Quotes
-- enclose every name, so that a name can be a word of the language; they escape no letter of a
-- name.
use Rattle.std.specs.Prelude.{ℕ, zero, suc, List, [], ◌∷◌, ◌++◌, codes, decimal, flat_map}
use Rattle.std.specs.List.{concat, range_with_len}
use Rattle.cn_table.specs.Names.{name_at}
use Rattle.cn_choice.specs.TeamNames.{team_name}
use Rattle.cn_proto.specs.Plan.{Plan, processes_of, nodes_of}
use Rattle.cn_proto.specs.PlanText.{operation_name_of}
use Rattle.cn_proto.specs.declared.place.Place.{Place}
use Rattle.cn_plan_text.specs.Places.{place_at, places_of}

-- the type, and the state in which each object starts
abbrev pub head_dot : Plan → List ℕ
head_dot plan =
    concat (codes "digraph \"" ∷ plan.table.name ∷ codes "\" {\n  rankdir=BT;\n  label=\""
    ∷ plan.table.name ∷ codes " from " ∷ name_at plan.table.states plan.choice.state
    ∷ codes "\";\n" ∷ [])

abbrev pub node_dot : ℕ → List ℕ
node_dot node =
    concat (codes "  node_" ∷ decimal node ∷ codes " [label=\"node " ∷ decimal node
    ∷ codes "\"];\n" ∷ [])

-- the origin of process p on its way to place i of its path
abbrev pub origin_dot : Plan → ℕ → ℕ → List ℕ
origin_dot plan p zero = concat (codes "  process_" ∷ decimal p ∷ [])
origin_dot plan p (suc i) = concat (codes "  node_" ∷ decimal (place_at plan p i).node ∷ [])

-- the arrow on which process p comes to a place: its team there, its role, and the operation of the
-- role
abbrev pub arrow_dot : Plan → ℕ → Place → List ℕ
arrow_dot plan p place =
    concat (codes " -> node_" ∷ decimal place.node ∷ codes " [label=\"process " ∷ decimal p
    ∷ codes ": " ∷ team_name place.team ∷ codes " role " ∷ decimal place.role ∷ codes " "
    ∷ operation_name_of plan place.role ∷ codes "\"];\n" ∷ [])

-- the edge of process p to place i of its path
abbrev pub edge_dot : Plan → ℕ → ℕ → List ℕ
edge_dot plan p i = origin_dot plan p i ++ arrow_dot plan p (place_at plan p i)

abbrev pub box_dot : ℕ → List ℕ
box_dot p =
    concat (codes "  process_" ∷ decimal p ∷ codes " [shape=box,label=\"process " ∷ decimal p
    ∷ codes "\"];\n" ∷ [])

-- a process, and its edges up to the root
abbrev pub process_dot : Plan → ℕ → List ℕ
process_dot plan p = box_dot p ++ flat_map (edge_dot plan p) (range_with_len 0 (places_of plan p))

unfoldable pub plan_dot : Plan → List ℕ
plan_dot plan =
    head_dot plan ++ flat_map node_dot (range_with_len 0 (nodes_of plan))
    ++ flat_map (process_dot plan) (range_with_len 0 (processes_of plan)) ++ codes "}\n"
