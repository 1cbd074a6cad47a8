use Rattle.cn_json.specs.Unread.{play_data}
use Rattle.cn_json.proofs.Pieces.{piece}
use Rattle.cn_json.proofs.unread.PlayJsonValue.write.Goals as goal

pub returns : goal.returns
unfolding play_data
returns c = rw (← c.deref.ensures.value, ← c.deref-2.ensures.value, ← c.end_value.ensures, c.state_name.ensures)
    (piece c.in_ok-begin_object.ensures (piece c.in_ok-array_at.ensures (piece c.in_ok-array_at-2.ensures
    (piece c.in_ok-member.ensures (piece c.in_ok-processes_of.ensures c.last_members.ensures)))))
