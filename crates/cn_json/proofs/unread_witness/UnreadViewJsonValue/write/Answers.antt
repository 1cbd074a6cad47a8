use Rattle.cn_json.specs.UnreadWitness.{unread_process}
use Rattle.cn_json.proofs.Pieces.{piece}
use Rattle.cn_json.proofs.unread_witness.UnreadViewJsonValue.write.Goals as goal

pub returns : goal.returns
unfolding unread_process
returns c = rw (← c.deref.ensures.value, ← c.deref-2.ensures.value, c.operation_name.ensures, ← c.name.ensures)
    (piece c.in_ok-begin_object.ensures (piece c.in_ok-array_at.ensures (piece c.in_ok-array_at-2.ensures c.last_members.ensures)))
