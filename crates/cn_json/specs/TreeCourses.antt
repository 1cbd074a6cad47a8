-- The steps of a schedule along a plan tree, and the decisions after it, as JSON values.
use Rattle.std.specs.Prelude.{ℕ, ◌<◌, List, Option, Some, None, codes, length}
use Rattle.serde_json.specs.Data.{Data, object, member, no_members}
use Rattle.cn_table.specs.TypeTable.{TypeTable}
use Rattle.cn_table.specs.declared.elements.Operation.{Operation}
use Rattle.cn_table.specs.declared.elements.Response.{Response}
use Rattle.cn_tree_rounds.specs.Courses.{Course}
use Rattle.cn_tree_rounds.specs.declared.action.Action.{Action}
use Rattle.cn_tree_rounds.specs.declared.action.Action.TheVariants.{Write, Apply, Read, Look, Take, Decide}
use Rattle.cn_tree_rounds.specs.declared.action.StepRecord.{StepRecord}
use Rattle.cn_json.specs.Course.{decision_data, idle_data}
use Rattle.cn_json.specs.Names.{operation_data, response_data, state_data}
use Rattle.cn_json.specs.Values.{list_data, number_data, text_data}
use Rattle.cn_json.specs.declared.tree_course.Applied.{Applied}

-- a process uses the register of a team
abbrev pub team_register_data : List ℕ → ℕ → ℕ → ℕ → ℕ → Data
team_register_data action node process team value =
    object (member (codes "action") (text_data action)
    (member (codes "node") (number_data node)
    (member (codes "process") (number_data process)
    (member (codes "team") (number_data team)
    (member (codes "value") (number_data value) no_members)))))

-- the operation, the response and the states are of the table
abbrev pub IsAppliedIn : TypeTable → Applied → Type 0
IsAppliedIn t x = (x.operation.0 < length t.operations) × (x.response.0 < length t.responses)
    × (x.before.0 < length t.states) × (x.after.0 < length t.states)

-- a process applies its operation between two states, and gets a response; where it does not look,
-- it judges by it
abbrev pub apply_data : TypeTable → Applied → Option ℕ → Data
apply_data t x None =
    object (member (codes "action") (text_data (codes "apply"))
    (member (codes "after") (state_data t x.after)
    (member (codes "before") (state_data t x.before)
    (member (codes "node") (number_data x.node)
    (member (codes "operation") (operation_data t x.operation)
    (member (codes "process") (number_data x.process)
    (member (codes "response") (response_data t x.response) no_members)))))))
apply_data t x (Some judged) =
    object (member (codes "action") (text_data (codes "apply"))
    (member (codes "after") (state_data t x.after)
    (member (codes "before") (state_data t x.before)
    (member (codes "judged") (number_data judged)
    (member (codes "node") (number_data x.node)
    (member (codes "operation") (operation_data t x.operation)
    (member (codes "process") (number_data x.process)
    (member (codes "response") (response_data t x.response) no_members))))))))

-- a process looks by an operation that changes nothing, and judges by the response
abbrev pub look_data : TypeTable → ℕ → ℕ → Operation → Response → ℕ → Data
look_data t process node operation response judged =
    object (member (codes "action") (text_data (codes "look"))
    (member (codes "judged") (number_data judged)
    (member (codes "node") (number_data node)
    (member (codes "operation") (operation_data t operation)
    (member (codes "process") (number_data process)
    (member (codes "response") (response_data t response) no_members))))))

-- an action of a process: it uses a register, applies its operation, reads a state or looks by an
-- operation and judges that a team came first, or decides
abbrev pub tree_action_data : TypeTable → ℕ → Action → Data
tree_action_data t process (Write node team value) =
    team_register_data (codes "write") node process team value
tree_action_data t process (Apply node operation response before after team) = apply_data t
    (record {
      process = process;
      node = node;
      operation = operation;
      response = response;
      before = before;
      after = after;
    })
    team
tree_action_data t process (Read node state judged) =
    object (member (codes "action") (text_data (codes "read"))
    (member (codes "judged") (number_data judged)
    (member (codes "node") (number_data node)
    (member (codes "process") (number_data process)
    (member (codes "state") (state_data t state) no_members)))))
tree_action_data t process (Look node operation response judged) =
    look_data t process node operation response judged
tree_action_data t process (Take node team value) =
    team_register_data (codes "take") node process team value
tree_action_data t process (Decide value) =
    object (member (codes "action") (text_data (codes "decide"))
    (member (codes "process") (number_data process)
    (member (codes "value") (number_data value) no_members)))

abbrev pub tree_turn_data : TypeTable → ℕ → Option Action → Data
tree_turn_data t process None = idle_data process
tree_turn_data t process (Some action) = tree_action_data t process action

-- a step of a schedule
abbrev pub tree_step_data : TypeTable → StepRecord → Data
tree_step_data t step = tree_turn_data t step.process step.action

-- for each process its decision, and each step
unfoldable pub tree_course_data : TypeTable → Course → Data
tree_course_data t course =
    object (member (codes "decisions") (list_data decision_data course.decisions)
    (member (codes "steps") (list_data (tree_step_data t) course.records) no_members))
