-- The witness of a number as a JSON value: its processes, and what each can see.
use Rattle.std.specs.Prelude.{codes}
use Rattle.serde_json.specs.Data.{Data, array, object, member, no_members}
use Rattle.serde_json.specs.View.{items_of}
use Rattle.cn_table.specs.TypeTable.{TypeTable}
use Rattle.cn_choice.specs.TeamNames.{team_name}
use Rattle.cn_reasons.specs.declared.witness.View.{View}
use Rattle.cn_reasons.specs.declared.witness.Witness.{Witness}
use Rattle.cn_json.specs.Choices.{of_processes}
use Rattle.cn_json.specs.Collisions.{sight_data}
use Rattle.cn_json.specs.Names.{operation_data, state_data}
use Rattle.cn_json.specs.Values.{list_data, text_data}

-- a process of a view: what it can see where each team is first, its operation and its team
unfoldable pub witness_process : TypeTable → View → Data
witness_process t v =
    object (member (codes "a_first") (list_data (sight_data t) v.a_first.items)
    (member (codes "b_first") (list_data (sight_data t) v.b_first.items)
    (member (codes "operation") (operation_data t v.group.operation)
    (member (codes "team") (text_data (team_name v.group.team)) no_members))))

-- a choice with which each process can tell
unfoldable pub witness_data : TypeTable → Witness → Data
witness_data t w =
    object (member (codes "processes")
    (array (items_of (of_processes (λ v. v.group.count) (witness_process t) w.views.items)))
    (member (codes "start") (state_data t w.choice.start) no_members))
