use Rattle.cn_json.specs.Lasting.{lasting_data}
use Rattle.cn_json.proofs.Pieces.{piece}
use Rattle.cn_json.proofs.lasting.LastingWitnessJsonValue.write.Goals as goal

pub returns : goal.returns
unfolding lasting_data
returns c = rw (c.operation_name.ensures, ← c.deref.ensures.value, c.operation_name-2.ensures, ← c.deref-2.ensures.value, c.state_name.ensures)
    (piece c.in_ok-begin_object.ensures (piece c.in_ok-member.ensures (piece c.in_ok-array_at.ensures
    (piece c.in_ok-member-2.ensures (piece c.in_ok-array_at-2.ensures c.last_members.ensures)))))
