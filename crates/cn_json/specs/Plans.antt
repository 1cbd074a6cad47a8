-- A plan as a JSON value.
use Rattle.std.specs.Prelude.{ℕ, [], codes, length, slice_index_or}
use Rattle.std.specs.List.{range_with_len}
use Rattle.serde_json.specs.Data.{Data, object, member, no_members}
use Rattle.cn_table.specs.Names.{name_at}
use Rattle.cn_table.specs.TypeTable.{TypeTable}
use Rattle.cn_choice.specs.TeamNames.{team_name}
use Rattle.cn_proto.specs.Plan.{Plan, processes_of, nodes_of, protocol_of}
use Rattle.cn_proto.specs.PlanText.{operation_name_of}
use Rattle.cn_proto.specs.Tournament.{team_of}
use Rattle.cn_proto.specs.declared.place.Place.{Place}
use Rattle.cn_json.specs.Values.{list_data, number_data, text_data}

abbrev pub place_data : Place → Data
place_data place =
    object (member (codes "node") (number_data place.node)
    (member (codes "role") (number_data place.role)
    (member (codes "team") (text_data (team_name place.team)) no_members)))

-- the places of a process, from its lowest node to the root
abbrev pub path_data : Plan → ℕ → Data
path_data plan p = list_data place_data ((protocol_of plan).path p)

-- a response and a state, by their names
abbrev pub pair_data : TypeTable → ℕ × ℕ → Data
pair_data t pair =
    object (member (codes "response") (text_data (name_at t.responses pair.0))
    (member (codes "state") (text_data (name_at t.states pair.1)) no_members))

-- a role: the pairs that it judges to be team A's, its operation and its team
unfoldable pub role_data : Plan → ℕ → Data
role_data plan role =
    object (member (codes "judges")
    (list_data (pair_data plan.table) (slice_index_or plan.judged_pairs role []))
    (member (codes "operation") (text_data (operation_name_of plan role))
    (member (codes "team") (text_data (team_name (team_of (length plan.choice.a) role)))
    no_members)))

-- the path of each process, each role, the state in which each object starts, and the type
unfoldable pub plan_data : Plan → Data
plan_data plan =
    object (member (codes "nodes") (number_data (nodes_of plan))
    (member (codes "paths") (list_data (path_data plan) (range_with_len 0 (processes_of plan)))
    (member (codes "processes") (number_data (processes_of plan))
    (member (codes "roles") (list_data (role_data plan) (range_with_len 0 (processes_of plan)))
    (member (codes "start") (text_data (name_at plan.table.states plan.choice.state))
    (member (codes "type") (text_data plan.table.name) no_members))))))
