-- The decisions of processes, and the steps of a schedule, as JSON values.
use Rattle.std.specs.Prelude.{ℕ, List, Option, Some, None, codes}
use Rattle.serde_json.specs.Data.{Data, null, object, member, no_members}
use Rattle.cn_table.specs.TypeTable.{TypeTable}
use Rattle.cn_choice.specs.TeamNames.{team_name}
use Rattle.cn_choice.specs.declared.team.Team.{Team}
use Rattle.cn_agree.specs.Actions.{Course}
use Rattle.cn_agree.specs.declared.next_action.Action.{Action}
use Rattle.cn_agree.specs.declared.next_action.Action.TheVariants.{Write, Apply, Read, Take, Decide}
use Rattle.cn_agree.specs.declared.next_action.StepRecord.{StepRecord}
use Rattle.cn_json.specs.Names.{operation_data, response_data, state_data}
use Rattle.cn_json.specs.Values.{list_data, number_data, text_data}

-- the value that a process has decided, or null
abbrev pub decision_data : Option ℕ → Data
decision_data None = null
decision_data (Some value) = number_data value

-- a process uses the register of a team
abbrev pub register_data : List ℕ → ℕ → ℕ → Team → ℕ → Data
register_data action node process team value =
    object (member (codes "action") (text_data action)
    (member (codes "node") (number_data node)
    (member (codes "process") (number_data process)
    (member (codes "team") (text_data (team_name team))
    (member (codes "value") (number_data value) no_members)))))

-- a process that has decided before
abbrev pub idle_data : ℕ → Data
idle_data process =
    object (member (codes "action") (text_data (codes "none"))
    (member (codes "process") (number_data process) no_members))

-- an action of a process: it uses a register, applies its operation between two states and gets a
-- response, reads a state and judges that a team came first, or decides
abbrev pub action_data : TypeTable → ℕ → Action ℕ → Data
action_data t process (Write node team value) = register_data (codes "write") node process team value
action_data t process (Apply node operation response before after) =
    object (member (codes "action") (text_data (codes "apply"))
    (member (codes "after") (state_data t after)
    (member (codes "before") (state_data t before)
    (member (codes "node") (number_data node)
    (member (codes "operation") (operation_data t operation)
    (member (codes "process") (number_data process)
    (member (codes "response") (response_data t response) no_members)))))))
action_data t process (Read node state judged) =
    object (member (codes "action") (text_data (codes "read"))
    (member (codes "judged") (text_data (team_name judged))
    (member (codes "node") (number_data node)
    (member (codes "process") (number_data process)
    (member (codes "state") (state_data t state) no_members)))))
action_data t process (Take node team value) = register_data (codes "take") node process team value
action_data t process (Decide value) =
    object (member (codes "action") (text_data (codes "decide"))
    (member (codes "process") (number_data process)
    (member (codes "value") (number_data value) no_members)))

abbrev pub turn_data : TypeTable → ℕ → Option (Action ℕ) → Data
turn_data t process None = idle_data process
turn_data t process (Some action) = action_data t process action

-- a step of a schedule
abbrev pub step_data : TypeTable → StepRecord ℕ → Data
step_data t step = turn_data t step.process step.action

-- for each process its decision
unfoldable pub decisions_data : List (Option ℕ) → Data
decisions_data decisions =
    object (member (codes "decisions") (list_data decision_data decisions) no_members)

-- the same, and each step
unfoldable pub course_data : TypeTable → Course → Data
course_data t course =
    object (member (codes "decisions") (list_data decision_data course.decisions)
    (member (codes "steps") (list_data (step_data t) course.records) no_members))
