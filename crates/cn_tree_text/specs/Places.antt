-- The nodes of a plan tree, the places of its processes, and what they do there.
use Rattle.std.specs.Prelude.{ℕ, ◌+◌, ◌-◌, ◌==◌, Bool, not, List, length, slice_index_or, ◌||◌}
use Rattle.cn_table.specs.Names.{name_at}
use Rattle.cn_table.specs.TypeTable.{operation_names}
use Rattle.cn_meetings.specs.Sights.{reads}
use Rattle.cn_meetings.specs.declared.sight.Sight.{Sight}
use Rattle.cn_trees.specs.Tree.{Place, members, path_of, place_of, team_in}
use Rattle.cn_tree_costs.specs.Nodes.{node_at}
use Rattle.cn_tree_costs.specs.Sizes.{sizes_of}
use Rattle.cn_tree_plans.specs.Plan.{NodeMeeting, TreePlan, no_meeting, tree_of}

-- the number of places on the path of a process
abbrev pub place_count : TreePlan → ℕ → ℕ
place_count plan p = length (path_of (tree_of plan) p)

-- place i of the path of process p
abbrev pub place_at : TreePlan → ℕ → ℕ → Place
place_at plan p i = place_of (tree_of plan) p i

-- the first process of node v, and the number of its processes
abbrev pub first_at : TreePlan → ℕ → ℕ
first_at plan v = (node_at plan.teams v).first

abbrev pub size_at : TreePlan → ℕ → ℕ
size_at plan v = members (node_at plan.teams v).teams

-- the number of its teams
abbrev pub team_count : TreePlan → ℕ → ℕ
team_count plan v = length (sizes_of (node_at plan.teams v).teams)

abbrev pub node_meeting : TreePlan → ℕ → NodeMeeting
node_meeting plan v = slice_index_or plan.meetings v no_meeting

-- the name of the state in which the object of node v starts
abbrev pub start_at : TreePlan → ℕ → List ℕ
start_at plan v = name_at plan.table.states (node_meeting plan v).start

-- what the processes of node v see of the state behind their operations
abbrev pub sight_at : TreePlan → ℕ → Sight
sight_at plan v = (node_meeting plan v).sight

-- they read it
abbrev pub reads_at : TreePlan → ℕ → Bool
reads_at plan v = reads (sight_at plan v)

-- the name of the operation of process p at node v
abbrev pub operation_at : TreePlan → ℕ → ℕ → List ℕ
operation_at plan v p =
    name_at (operation_names plan.table) (((tree_of plan).meeting v).operation p)

-- process p is the first one of its team at node v, and the last one
abbrev pub is_first : TreePlan → ℕ → ℕ → Bool
is_first plan v p =
    p == first_at plan v || not (team_in plan.teams v (p - 1) == team_in plan.teams v p)

abbrev pub is_last : TreePlan → ℕ → ℕ → Bool
is_last plan v p =
    p + 1 == first_at plan v + size_at plan v
    || not (team_in plan.teams v (p + 1) == team_in plan.teams v p)
