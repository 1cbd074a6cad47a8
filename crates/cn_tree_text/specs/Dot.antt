-- A plan tree as a picture for Graphviz: the nodes, with each process below its lowest node. Quotes
-- enclose every name, so that a name can be a word of the language; they escape no letter of a
-- name.
use Rattle.std.specs.Prelude.{ℕ, zero, suc, List, [], ◌∷◌, ◌++◌, codes, decimal, flat_map}
use Rattle.std.specs.List.{concat, range_with_len}
use Rattle.cn_trees.specs.Tree.{Place, nodes_of, processes_of}
use Rattle.cn_tree_plans.specs.Plan.{TreePlan, tree_of}
use Rattle.cn_tree_text.specs.Places.{operation_at, place_at, place_count, sight_at, start_at}
use Rattle.cn_tree_text.specs.Text.{sight_text}

-- the type
abbrev pub head_dot : TreePlan → List ℕ
head_dot plan =
    concat (codes "digraph \"" ∷ plan.table.name ∷ codes "\" {\n  rankdir=BT;\n  label=\""
    ∷ plan.table.name ∷ codes "\";\n" ∷ [])

-- a node, with the state in which its object starts, and by what its processes judge
abbrev pub node_dot : TreePlan → ℕ → List ℕ
node_dot plan v =
    concat (codes "  node_" ∷ decimal v ∷ codes " [label=\"node " ∷ decimal v ∷ codes " from "
    ∷ start_at plan v ∷ codes " by " ∷ sight_text plan.table (sight_at plan v)
    ∷ codes "\"];\n" ∷ [])

-- the origin of process p on its way to place i of its path
abbrev pub origin_dot : TreePlan → ℕ → ℕ → List ℕ
origin_dot plan p zero = concat (codes "  process_" ∷ decimal p ∷ [])
origin_dot plan p (suc i) = concat (codes "  node_" ∷ decimal (place_at plan p i).node ∷ [])

-- the arrow on which process p comes to a place: its team there, and its operation
abbrev pub arrow_dot : TreePlan → ℕ → Place → List ℕ
arrow_dot plan p place =
    concat (codes " -> node_" ∷ decimal place.node ∷ codes " [label=\"process " ∷ decimal p
    ∷ codes ": team " ∷ decimal place.team ∷ codes " " ∷ operation_at plan place.node p
    ∷ codes "\"];\n" ∷ [])

-- the edge of process p to place i of its path
abbrev pub edge_dot : TreePlan → ℕ → ℕ → List ℕ
edge_dot plan p i = origin_dot plan p i ++ arrow_dot plan p (place_at plan p i)

abbrev pub box_dot : ℕ → List ℕ
box_dot p =
    concat (codes "  process_" ∷ decimal p ∷ codes " [shape=box,label=\"process " ∷ decimal p
    ∷ codes "\"];\n" ∷ [])

-- a process, and its edges up to the root
abbrev pub process_dot : TreePlan → ℕ → List ℕ
process_dot plan p = box_dot p ++ flat_map (edge_dot plan p) (range_with_len 0 (place_count plan p))

unfoldable pub plan_dot : TreePlan → List ℕ
plan_dot plan =
    head_dot plan ++ flat_map (node_dot plan) (range_with_len 0 (nodes_of (tree_of plan)))
    ++ flat_map (process_dot plan) (range_with_len 0 (processes_of (tree_of plan))) ++ codes "}\n"
