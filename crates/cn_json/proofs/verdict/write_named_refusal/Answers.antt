use Rattle.cn_json.specs.Verdict.{refused_data}
use Rattle.cn_json.proofs.Pieces.{piece}
use Rattle.cn_json.proofs.verdict.write_named_refusal.Goals as goal

pub returns : goal.returns
unfolding refused_data
returns c = piece c.in_ok-begin_object.ensures (piece c.in_ok-key.ensures (piece c.in_ok-write_named_fault.ensures c.last_members.ensures))
