use Rattle.cn_json.proofs.Pieces.{piece}
use Rattle.cn_json.proofs.lives.write_crash.Goals as goal

pub returns : goal.returns
returns c = piece c.in_ok-begin_object.ensures
    (piece c.in_ok-member.ensures (piece c.in_ok-key.ensures (piece c.in_ok-write_memory.ensures c.last_members.ensures)))
