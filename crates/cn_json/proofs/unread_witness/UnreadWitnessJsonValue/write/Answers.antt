use Rattle.cn_json.specs.UnreadWitness.{unread_witness_data}
use Rattle.cn_json.proofs.Pieces.{piece}
use Rattle.cn_json.proofs.unread_witness.UnreadWitnessJsonValue.write.Goals as goal

pub returns : goal.returns
unfolding unread_witness_data
returns c = rw (← c.deref.ensures.value, ← c.deref-2.ensures.value, ← c.deref-3.ensures.value, c.state_name.ensures)
    (piece c.in_ok-begin_object.ensures (piece c.in_ok-array_at.ensures (piece c.in_ok-array_at-2.ensures
    (piece c.in_ok-write_processes.ensures c.last_members.ensures))))
