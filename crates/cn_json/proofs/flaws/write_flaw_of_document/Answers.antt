use Rattle.cn_json.proofs.Pieces.{piece}
use Rattle.cn_json.proofs.flaws.write_flaw_of_document.Goals as goal

pub returns : goal.returns
returns c = rw (← c.name.ensures) (piece c.in_ok-begin_object.ensures (piece c.in_ok-member.ensures c.write_flaw_members.ensures))
