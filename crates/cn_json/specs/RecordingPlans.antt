-- The plan of a recording witness as a JSON value.
use Rattle.std.specs.Prelude.{ℕ, codes, length}
use Rattle.std.specs.List.{range_with_len}
use Rattle.serde_json.specs.Data.{Data, boolean, object, member, no_members}
use Rattle.cn_table.specs.Names.{name_at}
use Rattle.cn_choice.specs.TeamNames.{team_name}
use Rattle.cn_lives.specs.Plans.{RecordingPlan, is_lone, judge}
use Rattle.cn_proto.specs.Plan.{nodes_of, processes_of}
use Rattle.cn_proto.specs.PlanText.{operation_name_of}
use Rattle.cn_proto.specs.Tournament.{team_of}
use Rattle.cn_plan_text.specs.RecordingPlans.{life_steps, most_life_steps}
use Rattle.cn_json.specs.Plans.{path_data}
use Rattle.cn_json.specs.Values.{list_data, number_data, text_data}

-- a state, and the team that it shows to have come first
abbrev pub judged_state_data : RecordingPlan → ℕ → Data
judged_state_data plan q =
    object (member (codes "state") (text_data (name_at plan.plan.table.states q))
    (member (codes "team") (text_data (team_name (judge plan q))) no_members))

-- a process: its places, from its lowest node to the root, its number, and its own steps
unfoldable pub life_path_data : RecordingPlan → ℕ → Data
life_path_data plan p =
    object (member (codes "places") (path_data plan.plan p)
    (member (codes "process") (number_data p)
    (member (codes "steps") (number_data (life_steps plan p)) no_members)))

-- a role: its operation and its team
abbrev pub life_role_data : RecordingPlan → ℕ → Data
life_role_data plan role =
    object (member (codes "operation") (text_data (operation_name_of plan.plan role))
    (member (codes "team") (text_data (team_name (team_of (length plan.plan.choice.a) role)))
    no_members))

-- the team that each state shows; whether team A is one process alone; the numbers of nodes and of
-- processes, the path of each process, each role, the state in which each object starts, the greatest
-- number of own steps, and the type
unfoldable pub recording_plan_data : RecordingPlan → Data
recording_plan_data plan =
    object (member (codes "judges")
    (list_data (judged_state_data plan) (range_with_len 0 (length plan.plan.table.states)))
    (member (codes "lone") (boolean (is_lone plan))
    (member (codes "nodes") (number_data (nodes_of plan.plan))
    (member (codes "paths")
    (list_data (life_path_data plan) (range_with_len 0 (processes_of plan.plan)))
    (member (codes "processes") (number_data (processes_of plan.plan))
    (member (codes "roles")
    (list_data (life_role_data plan) (range_with_len 0 (processes_of plan.plan)))
    (member (codes "start") (text_data (name_at plan.plan.table.states plan.plan.choice.state))
    (member (codes "steps") (number_data (most_life_steps plan))
    (member (codes "type") (text_data plan.plan.table.name) no_members)))))))))
