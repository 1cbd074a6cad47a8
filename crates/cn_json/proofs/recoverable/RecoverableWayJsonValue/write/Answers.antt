use Rattle.cn_json.specs.Recoverable.{refuted_data}
use Rattle.cn_json.proofs.Pieces.{piece}
use Rattle.cn_json.proofs.recoverable.RecoverableWayJsonValue.write.Goals as goal

pub returns : goal.returns
unfolding refuted_data
returns c = rw (← c.deref.ensures.0, ← c.deref-2.ensures.0, c.state_name.ensures, c.state_name-2.ensures)
    (piece c.in_ok-begin_object.ensures (piece c.in_ok-array_at.ensures (piece c.in_ok-array_at-2.ensures
    (piece c.in_ok-processes_of.ensures c.last_members.ensures))))
