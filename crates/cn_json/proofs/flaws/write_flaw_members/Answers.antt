use Rattle.cn_json.proofs.Pieces.{piece}
use Rattle.cn_json.proofs.flaws.write_flaw_members.Goals as goal

pub returns : goal.returns
returns c = rw (← c.number.ensures, ← c.deref.ensures.value, ← c.as_str.ensures.value)
    (piece c.in_ok-member.ensures (piece c.in_ok-write_path.ensures c.last_members.ensures))
