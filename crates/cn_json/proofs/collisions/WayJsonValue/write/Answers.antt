use Rattle.cn_json.specs.Collisions.{collision_data}
use Rattle.cn_json.proofs.Pieces.{piece}
use Rattle.cn_json.proofs.collisions.WayJsonValue.write.Goals as goal

pub returns : goal.returns
unfolding collision_data
returns c = rw (← c.deref.ensures.0, ← c.deref-2.ensures.0, c.state_name.ensures)
    (piece c.in_ok-begin_object.ensures (piece c.in_ok-run_at.ensures (piece c.in_ok-run_at-2.ensures
    (piece c.in_ok-member.ensures (piece c.in_ok-processes_of.ensures c.last_members.ensures)))))
