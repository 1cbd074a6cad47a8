use Rattle.cn_json.proofs.Pieces.{piece}
use Rattle.cn_json.proofs.unread_witness.UnreadSightJsonValue.write.Goals as goal

pub returns : goal.returns
returns c = rw (← c.deref.ensures.0, c.response_name.ensures)
    (piece c.in_ok-begin_object.ensures (piece c.in_ok-array_at.ensures c.last_members.ensures))
