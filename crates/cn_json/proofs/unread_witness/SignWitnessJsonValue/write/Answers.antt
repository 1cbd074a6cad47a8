use Rattle.cn_json.specs.UnreadWitness.{signs_data}
use Rattle.cn_json.proofs.Pieces.{piece}
use Rattle.cn_json.proofs.unread_witness.SignWitnessJsonValue.write.Goals as goal

pub returns : goal.returns
unfolding signs_data
returns c = rw (← c.as_slice.ensures.value, c.operation_name.ensures, ← c.name.ensures, ← c.deref.ensures.value, c.operation_name-2.ensures, c.state_name.ensures)
    (piece c.in_ok-begin_object.ensures (piece c.in_ok-write_further.ensures (piece c.in_ok-member.ensures (piece c.in_ok-member-2.ensures
    (piece c.in_ok-array_at.ensures (piece c.in_ok-member-3.ensures c.last_members.ensures))))))
