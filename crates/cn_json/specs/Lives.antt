-- The events of a schedule of steps and crashes, as JSON values.
use Rattle.std.specs.Prelude.{ℕ, codes}
use Rattle.serde_json.specs.Data.{Data, null, object, member, no_members}
use Rattle.cn_table.specs.TypeTable.{TypeTable}
use Rattle.cn_choice.specs.TeamNames.{team_name}
use Rattle.cn_lives.specs.Courses.{LifeCourse}
use Rattle.cn_lives.specs.declared.life_action.LifeAction.{LifeAction}
use Rattle.cn_lives.specs.declared.life_action.LifeAction.TheVariants.{Common, ReadStart, ReadEmpty}
use Rattle.cn_lives.specs.declared.life_action.LifeAction.TheVariants.{HasDecided, Crash}
use Rattle.cn_lives.specs.declared.life_action.LifeRecord.{LifeRecord}
use Rattle.cn_lives.specs.declared.life_action.Memory.{Memory}
use Rattle.cn_lives.specs.declared.life_action.Memory.TheVariants.{Value, Decision}
use Rattle.cn_json.specs.Course.{action_data, decision_data, idle_data}
use Rattle.cn_json.specs.Names.{state_data}
use Rattle.cn_json.specs.Values.{list_data, number_data, text_data}

-- what a process remembers: the value with which it is at a node, or its decision
abbrev pub memory_data : Memory → Data
memory_data (Value node value) =
    object (member (codes "node") (number_data node)
    (member (codes "value") (number_data value) no_members))
memory_data (Decision value) = object (member (codes "decision") (number_data value) no_members)

-- a process crashes and forgets this
abbrev pub crash_data : ℕ → Memory → Data
crash_data process forgets =
    object (member (codes "action") (text_data (codes "crash"))
    (member (codes "forgets") (memory_data forgets)
    (member (codes "process") (number_data process) no_members)))

-- what a process does: an action of any process; it reads the start state before its operation, and
-- judges no team; it reads the register of a team, which is empty; it has decided; or it crashes
abbrev pub life_action_data : TypeTable → ℕ → LifeAction → Data
life_action_data t process (Common action) = action_data t process action
life_action_data t process (ReadStart node state) =
    object (member (codes "action") (text_data (codes "read"))
    (member (codes "judged") null
    (member (codes "node") (number_data node)
    (member (codes "process") (number_data process)
    (member (codes "state") (state_data t state) no_members)))))
life_action_data t process (ReadEmpty node team) =
    object (member (codes "action") (text_data (codes "take"))
    (member (codes "node") (number_data node)
    (member (codes "process") (number_data process)
    (member (codes "team") (text_data (team_name team))
    (member (codes "value") null no_members)))))
life_action_data t process HasDecided = idle_data process
life_action_data t process (Crash forgets) = crash_data process forgets

-- an event of a schedule
abbrev pub life_step_data : TypeTable → LifeRecord → Data
life_step_data t event = life_action_data t event.process event.action

-- for each process its decision, and each event
unfoldable pub life_course_data : TypeTable → LifeCourse → Data
life_course_data t course =
    object (member (codes "decisions") (list_data decision_data course.decisions)
    (member (codes "steps") (list_data (life_step_data t) course.records) no_members))
