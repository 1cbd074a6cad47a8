-- The text of a plan tree: a line for the whole tree; for each node a line, and behind it one for
-- each of its processes; and a line for each process of the tree.
use Rattle.std.specs.Prelude.{ℕ, List, [], ◌∷◌, ◌++◌, codes, decimal, flat_map, map}
use Rattle.std.specs.Prelude.{if◌then◌else◌}
use Rattle.std.specs.List.{concat, range_with_len}
use Rattle.cn_table.specs.Names.{name_at}
use Rattle.cn_table.specs.Texts.{joined_texts}
use Rattle.cn_table.specs.TypeTable.{TypeTable, operation_names}
use Rattle.cn_meetings.specs.declared.sight.Sight.{Sight}
use Rattle.cn_meetings.specs.declared.sight.Sight.TheVariants.{Nothing, Response, State}
use Rattle.cn_trees.specs.Consensus.{steps_of}
use Rattle.cn_trees.specs.Tree.{Place, nodes_of, path_of, processes_of}
use Rattle.cn_tree_costs.specs.Cost.{cost}
use Rattle.cn_tree_plans.specs.Plan.{TreePlan, judged_at, tree_of}
use Rattle.cn_tree_plans.specs.declared.judged.Judged.{Judged}
use Rattle.cn_tree_text.specs.Places.{first_at, is_first, is_last, operation_at, sight_at, size_at}
use Rattle.cn_tree_text.specs.Places.{start_at}

-- the type, the numbers of processes and of objects, and the greatest number of own steps
abbrev pub head_line : TreePlan → List ℕ
head_line plan =
    concat (codes "type " ∷ plan.table.name ∷ codes " processes "
    ∷ decimal (processes_of (tree_of plan)) ∷ codes " objects " ∷ decimal (nodes_of (tree_of plan))
    ∷ codes " steps " ∷ decimal (cost (tree_of plan)).steps ∷ codes "\n" ∷ [])

-- ---- nodes

-- the first process of a team, and the last one, if there are several
abbrev pub end_text : TreePlan → ℕ → ℕ → List ℕ
end_text plan v p =
    if is_first plan v p
    then codes " " ++ decimal p
    else (if is_last plan v p then codes "-" ++ decimal p else [])

-- the teams of node v, one after the other
abbrev pub teams_text : TreePlan → ℕ → List ℕ
teams_text plan v =
    flat_map (end_text plan v) (range_with_len (first_at plan v) (size_at plan v))

-- by what the processes of a node judge
abbrev pub sight_text : TypeTable → Sight → List ℕ
sight_text t State = codes "response and state"
sight_text t Nothing = codes "response"
sight_text t (Response o) = codes "response and look " ++ name_at (operation_names t) o.0

-- the start state of a node, by what its processes judge, and its teams
abbrev pub node_line : TreePlan → ℕ → List ℕ
node_line plan v =
    concat (codes "node " ∷ decimal v ∷ codes " start " ∷ start_at plan v ∷ codes " by "
    ∷ sight_text plan.table (sight_at plan v) ∷ codes " teams" ∷ teams_text plan v ∷ codes "\n" ∷ [])

-- what is seen, where a process looks: a state or a response
abbrev pub seen_text : TypeTable → Sight → ℕ → List ℕ
seen_text t State saw = codes "/" ++ name_at t.states saw
seen_text t Nothing saw = []
seen_text t (Response o) saw = codes "/" ++ name_at t.responses saw

-- a response, what is seen, and the team that they show to have come first
abbrev pub judgement_text : TypeTable → Sight → Judged → List ℕ
judgement_text t sight j =
    concat (codes " " ∷ name_at t.responses j.response.0 ∷ seen_text t sight j.saw
    ∷ codes ":" ∷ decimal j.team ∷ [])

-- the operation of process p at node v, and what it judges there
abbrev pub member_line : TreePlan → ℕ → ℕ → List ℕ
member_line plan v p =
    concat (codes "node " ∷ decimal v ∷ codes " process " ∷ decimal p ∷ codes " "
    ∷ operation_at plan v p ∷ codes " judges"
    ∷ flat_map (judgement_text plan.table (sight_at plan v)) (judged_at plan v p) ∷ codes "\n" ∷ [])

-- a node, and then each of its processes
abbrev pub node_lines : TreePlan → ℕ → List ℕ
node_lines plan v =
    node_line plan v ++ flat_map (member_line plan v) (range_with_len (first_at plan v) (size_at plan v))

-- ---- processes

abbrev pub place_text : Place → List ℕ
place_text place =
    concat (codes "node " ∷ decimal place.node ∷ codes " team " ∷ decimal place.team ∷ [])

-- the own steps of process p, and its places, from its lowest node to the root
abbrev pub process_line : TreePlan → ℕ → List ℕ
process_line plan p =
    concat (codes "process " ∷ decimal p ∷ codes " steps " ∷ decimal (steps_of (tree_of plan) p)
    ∷ codes ": " ∷ joined_texts (codes ", ") (map place_text (path_of (tree_of plan) p))
    ∷ codes "\n" ∷ [])

unfoldable pub plan_text : TreePlan → List ℕ
plan_text plan =
    head_line plan ++ flat_map (node_lines plan) (range_with_len 0 (nodes_of (tree_of plan)))
    ++ flat_map (process_line plan) (range_with_len 0 (processes_of (tree_of plan)))
