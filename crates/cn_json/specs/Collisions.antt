-- The choices that a certificate refutes as JSON values, each with two runs.
use Rattle.std.specs.Prelude.{List, codes}
use Rattle.serde_json.specs.Data.{Data, object, member, no_members}
use Rattle.cn_table.specs.TypeTable.{TypeTable}
use Rattle.cn_reasons.specs.declared.runs.Step.{Step}
use Rattle.cn_reasons.specs.declared.sight.Sight.{Sight}
use Rattle.cn_reasons.specs.declared.way.Way.{Way}
use Rattle.cn_json.specs.Choices.{processes_data}
use Rattle.cn_json.specs.Names.{operation_data, response_data, state_data}
use Rattle.cn_json.specs.Values.{list_data, number_data}

-- what a process sees: a response and a state
abbrev pub sight_data : TypeTable → Sight → Data
sight_data t s =
    object (member (codes "response") (response_data t s.response)
    (member (codes "state") (state_data t s.state) no_members))

-- a step: the operation of a process, the response, and the state after it
abbrev pub step_data : TypeTable → Step → Data
step_data t s =
    object (member (codes "operation") (operation_data t s.operation)
    (member (codes "process") (number_data s.process)
    (member (codes "response") (response_data t s.response)
    (member (codes "state") (state_data t s.state) no_members))))

-- a run from the start state, and what a process sees of it
abbrev pub run_data : TypeTable → Sight → List Step → Data
run_data t sight steps =
    object (member (codes "pair") (sight_data t sight)
    (member (codes "steps") (list_data (step_data t) steps) no_members))

-- a choice, a process that cannot tell, and the two runs by which it cannot: in the first a process
-- of team A is first, and in the second one of team B
unfoldable pub collision_data : TypeTable → Way → Data
collision_data t w =
    object (member (codes "a_first") (run_data t w.sight w.runs.a_first.items)
    (member (codes "b_first") (run_data t w.sight w.runs.b_first.items)
    (member (codes "process") (number_data w.process)
    (member (codes "processes") (processes_data t w.choice)
    (member (codes "start") (state_data t w.choice.start) no_members)))))
