use Rattle.cn_json.specs.Recoverable.{recording_data}
use Rattle.cn_json.proofs.Pieces.{piece}
use Rattle.cn_json.proofs.recoverable.RecordingWitnessJsonValue.write.Goals as goal

pub returns : goal.returns
unfolding recording_data
returns c = rw (← c.deref.ensures.value, ← c.deref-2.ensures.value, c.state_name.ensures, ← c.start_team.ensures)
    (piece c.in_ok-begin_object.ensures (piece c.in_ok-array_at.ensures (piece c.in_ok-array_at-2.ensures
    (piece c.in_ok-processes_of.ensures (piece c.in_ok-member.ensures (piece c.in_ok-member-2.ensures c.end_object.ensures))))))
