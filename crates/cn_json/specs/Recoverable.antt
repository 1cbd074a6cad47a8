-- Why the recoverable number of a type is what it is, as a JSON value.
use Rattle.std.specs.Prelude.{codes}
use Rattle.serde_json.specs.Data.{Data, object, member, no_members}
use Rattle.cn_table.specs.TypeTable.{TypeTable}
use Rattle.cn_choice.specs.TeamNames.{team_name}
use Rattle.cn_reasons.specs.declared.reasons.RecoverableWay.{RecoverableWay}
use Rattle.cn_reasons.specs.declared.recording.Reader.{Reader}
use Rattle.cn_reasons.specs.declared.recording.RecordingWitness.{RecordingWitness}
use Rattle.cn_reasons.specs.declared.recoverable.RecoverableExplanation.{RecoverableExplanation}
use Rattle.cn_reasons.specs.declared.refutation.Refutation.{Refutation}
use Rattle.cn_json.specs.Choices.{processes_data}
use Rattle.cn_json.specs.Collisions.{step_data}
use Rattle.cn_json.specs.Names.{state_data}
use Rattle.cn_json.specs.Numbers.{exact_data}
use Rattle.cn_json.specs.Values.{list_data, number_data, option_data, text_data}

-- a choice, and two runs that leave one state; a run with no step is empty
unfoldable pub refuted_data : TypeTable → RecoverableWay → Data
refuted_data t w =
    object (member (codes "a_first") (list_data (step_data t) w.runs.a_first.items)
    (member (codes "b_first") (list_data (step_data t) w.runs.b_first.items)
    (member (codes "processes") (processes_data t w.choice)
    (member (codes "start") (state_data t w.choice.start)
    (member (codes "state") (state_data t w.state) no_members)))))

-- the choices that are told, and the number of all
abbrev pub refutation_data : TypeTable → Refutation RecoverableWay → Data
refutation_data t r =
    object (member (codes "choices") (list_data (refuted_data t) r.ways.items)
    (member (codes "count") (number_data r.count) no_members))

-- the team whose orders also leave the start state
abbrev pub start_team_data : Reader → Data
start_team_data reader = text_data (team_name reader.other)

-- a recording witness, with the states that orders leave which begin in each team
unfoldable pub recording_data : TypeTable → RecordingWitness → Data
recording_data t w =
    object (member (codes "a_states") (list_data (state_data t) w.a_states.items)
    (member (codes "b_states") (list_data (state_data t) w.b_states.items)
    (member (codes "processes") (processes_data t w.choice)
    (member (codes "start") (state_data t w.choice.start)
    (member (codes "start_team") (option_data start_team_data w.reader) no_members)))))

-- all that an explanation tells
unfoldable pub recoverable_data : RecoverableExplanation → Data
recoverable_data e =
    object (member (codes "name") (text_data e.table.name)
    (member (codes "number") (exact_data e.number)
    (member (codes "refuted") (option_data (refutation_data e.table) e.refutation)
    (member (codes "witness") (option_data (recording_data e.table) e.witness) no_members))))
