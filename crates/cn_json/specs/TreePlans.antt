-- A plan tree as a JSON value.
use Rattle.std.specs.Prelude.{ℕ, ◌==◌, codes, count_by}
use Rattle.std.specs.List.{range_with_len}
use Rattle.serde_json.specs.Data.{Data, Members, boolean, object, member, no_members}
use Rattle.cn_table.specs.TypeTable.{TypeTable}
use Rattle.cn_meetings.specs.declared.sight.Sight.{Sight}
use Rattle.cn_meetings.specs.declared.sight.Sight.TheVariants.{Nothing, Response, State}
use Rattle.cn_trees.specs.Consensus.{steps_of}
use Rattle.cn_trees.specs.Tree.{Place, nodes_of, path_of, processes_of, team_in}
use Rattle.cn_tree_costs.specs.Cost.{cost}
use Rattle.cn_tree_plans.specs.Plan.{TreePlan, judged_at, tree_of}
use Rattle.cn_tree_plans.specs.declared.judged.Judged.{Judged}
use Rattle.cn_tree_text.specs.Places.{first_at, operation_at, reads_at, sight_at, size_at, start_at, team_count}
use Rattle.cn_json.specs.Names.{operation_data, response_data, state_data}
use Rattle.cn_json.specs.Values.{list_data, number_data, text_data}

-- what is judged: a response; the state, if it is read, or the response of the operation by which a
-- process looks; and the team that they show
abbrev pub judged_data : TypeTable → Sight → Judged → Data
judged_data t State j =
    object (member (codes "response") (response_data t j.response)
    (member (codes "state") (state_data t (record { 0 = j.saw }))
    (member (codes "team") (number_data j.team) no_members)))
judged_data t Nothing j =
    object (member (codes "response") (response_data t j.response)
    (member (codes "team") (number_data j.team) no_members))
judged_data t (Response operation) j =
    object (member (codes "look") (response_data t (record { 0 = j.saw }))
    (member (codes "response") (response_data t j.response)
    (member (codes "team") (number_data j.team) no_members)))

-- a process of a node: what it judges, its operation and its team
unfoldable pub member_data : TreePlan → ℕ → ℕ → Data
member_data plan v p =
    object (member (codes "judges")
    (list_data (judged_data plan.table (sight_at plan v)) (judged_at plan v p))
    (member (codes "operation") (text_data (operation_at plan v p))
    (member (codes "process") (number_data p)
    (member (codes "team") (number_data (team_in plan.teams v p)) no_members))))

-- the number of processes of a team of a node
abbrev pub team_size_at : TreePlan → ℕ → ℕ → ℕ
team_size_at plan v team =
    count_by (λ p. team_in plan.teams v p == team) (range_with_len (first_at plan v) (size_at plan v))

-- the operation by which the processes of a node look, if they do so, and the members behind it
abbrev pub look_members : TypeTable → Sight → Members → Members
look_members t State others = others
look_members t Nothing others = others
look_members t (Response operation) others =
    member (codes "look") (operation_data t operation) others

-- of a node its number, its processes, whether they read the state, the start state, and the sizes
-- of the teams
unfoldable pub node_members : TreePlan → ℕ → Members
node_members plan v =
    member (codes "node") (number_data v)
    (member (codes "processes") (list_data (member_data plan v)
    (range_with_len (first_at plan v) (size_at plan v)))
    (member (codes "reads") (boolean (reads_at plan v))
    (member (codes "start") (text_data (start_at plan v))
    (member (codes "teams") (list_data (λ team. number_data (team_size_at plan v team))
    (range_with_len 0 (team_count plan v))) no_members))))

-- a node: its first process, the operation by which its processes look, and the members above
unfoldable pub node_data : TreePlan → ℕ → Data
node_data plan v =
    object (member (codes "first") (number_data (first_at plan v))
    (look_members plan.table (sight_at plan v) (node_members plan v)))

abbrev pub tree_place_data : Place → Data
tree_place_data place =
    object (member (codes "node") (number_data place.node)
    (member (codes "team") (number_data place.team) no_members))

-- a process: its places, from its lowest node to the root, and its own steps
unfoldable pub tree_path_data : TreePlan → ℕ → Data
tree_path_data plan p =
    object (member (codes "places") (list_data tree_place_data (path_of (tree_of plan) p))
    (member (codes "process") (number_data p)
    (member (codes "steps") (number_data (steps_of (tree_of plan) p)) no_members)))

-- the nodes; the number of objects; the path of each process; the number of processes; the greatest
-- number of own steps, and that of all processes together; and the type
unfoldable pub tree_plan_data : TreePlan → Data
tree_plan_data plan =
    object (member (codes "nodes")
    (list_data (node_data plan) (range_with_len 0 (nodes_of (tree_of plan))))
    (member (codes "objects") (number_data (nodes_of (tree_of plan)))
    (member (codes "paths")
    (list_data (tree_path_data plan) (range_with_len 0 (processes_of (tree_of plan))))
    (member (codes "processes") (number_data (processes_of (tree_of plan)))
    (member (codes "steps") (number_data (cost (tree_of plan)).steps)
    (member (codes "sum") (number_data (cost (tree_of plan)).sum)
    (member (codes "type") (text_data plan.table.name) no_members)))))))
