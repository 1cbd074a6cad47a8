use Rattle.cn_json.specs.Verdict.{refused_data}
use Rattle.cn_json.proofs.Pieces.{piece}
use Rattle.cn_json.proofs.stock_verdict.write_stock_refusal.Goals as goal

pub returns : goal.returns
unfolding refused_data
returns c = piece c.in_ok-begin_object.ensures (piece c.in_ok-key.ensures (piece c.in_ok-write_stock_fault.ensures c.last_members.ensures))
