-- The witnesses of a number without reads as JSON values: what processes can get, and signs.
use Rattle.std.specs.Prelude.{ℕ, List, codes}
use Rattle.serde_json.specs.Data.{Data, array, member, no_members, object}
use Rattle.serde_json.specs.View.{items_of}
use Rattle.cn_table.specs.Names.{name_at}
use Rattle.cn_table.specs.TypeTable.{TypeTable, operation_names}
use Rattle.cn_choice.specs.TeamNames.{team_name}
use Rattle.cn_further.specs.declared.follow_up.FollowUp.{FollowUp}
use Rattle.cn_unread_reasons.specs.declared.sight.Answer.{Answer}
use Rattle.cn_unread_reasons.specs.declared.sight.UnreadSight.{UnreadSight}
use Rattle.cn_unread_reasons.specs.declared.signs.SignWitness.{SignWitness}
use Rattle.cn_unread_reasons.specs.declared.witness.UnreadView.{UnreadView}
use Rattle.cn_unread_reasons.specs.declared.witness.UnreadWitness.{UnreadWitness}
use Rattle.cn_json.specs.Choices.{of_processes}
use Rattle.cn_json.specs.Names.{operation_data, response_data, state_data}
use Rattle.cn_json.specs.Values.{list_data, text_data}

-- the response to an operation
abbrev pub answer_data : TypeTable → Answer → Data
answer_data t a =
    object (member (codes "operation") (operation_data t a.operation)
    (member (codes "response") (response_data t a.response) no_members))

-- what a process gets: the response to its operation, and then the answers
abbrev pub unread_sight_data : TypeTable → UnreadSight → Data
unread_sight_data t s =
    object (member (codes "answers") (list_data (answer_data t) s.answers.items)
    (member (codes "response") (response_data t s.response) no_members))

-- a process of a view: what it can get where each team is first, its operation and its team
unfoldable pub unread_process : TypeTable → UnreadView → Data
unread_process t v =
    object (member (codes "a_first") (list_data (unread_sight_data t) v.a_first.items)
    (member (codes "b_first") (list_data (unread_sight_data t) v.b_first.items)
    (member (codes "operation") (operation_data t v.group.operation)
    (member (codes "team") (text_data (team_name v.group.team)) no_members))))

-- the further operation of a process that gets a response to its operation
abbrev pub follow_up_data : TypeTable → FollowUp → Data
follow_up_data t f =
    object (member (codes "further") (operation_data t f.further)
    (member (codes "operation") (operation_data t f.operation)
    (member (codes "response") (response_data t f.response) no_members)))

-- the processes of all groups, with what they can get
abbrev pub witness_processes : TypeTable → List UnreadView → Data
witness_processes t views =
    array (items_of (of_processes (λ v. v.group.count) (unread_process t) views))

-- a choice with which each process can tell, and what processes do behind their operations
unfoldable pub unread_witness_data : TypeTable → UnreadWitness → Data
unread_witness_data t w =
    object (member (codes "follow_ups") (list_data (follow_up_data t) w.follow_ups.items)
    (member (codes "looks") (list_data (operation_data t) w.looks.items)
    (member (codes "processes") (witness_processes t w.views.items)
    (member (codes "start") (state_data t w.choice.start) no_members))))

-- the name of the operation of a number
abbrev pub operation_number_data : TypeTable → ℕ → Data
operation_number_data t o = text_data (name_at (operation_names t) o)

-- the operations with which processes look for signs, and the signs of a team
unfoldable pub signs_data : TypeTable → SignWitness → Data
signs_data t s =
    object (member (codes "further") (list_data (operation_number_data t) s.choice.further.items)
    (member (codes "many") (operation_data t s.choice.many)
    (member (codes "side") (text_data (team_name s.choice.side))
    (member (codes "signs") (list_data (answer_data t) s.signs.items)
    (member (codes "single") (operation_data t s.choice.single)
    (member (codes "start") (state_data t s.choice.state) no_members))))))
