use Rattle.cn_json.proofs.Pieces.{piece}
use Rattle.cn_json.proofs.flaws.write_flaw_of_text.Goals as goal

pub returns : goal.returns
returns c = rw (← c.name.ensures) (piece c.in_ok-begin_object.ensures (piece c.in_ok-members.ensures c.write_flaw_members.ensures))
