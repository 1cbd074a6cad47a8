use Rattle.cn_json.proofs.Pieces.{piece}
use Rattle.cn_json.proofs.unread.PlayedTrapJsonValue.write.Goals as goal

pub returns : goal.returns
returns c = rw (← c.deref.ensures.value)
    (piece c.in_ok-begin_object.ensures (piece c.in_ok-array_at.ensures c.last_members.ensures))
