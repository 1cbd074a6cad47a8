use Rattle.cn_json.specs.Verdict.{refused_data}
use Rattle.cn_json.proofs.Pieces.{piece}
use Rattle.cn_json.proofs.tree_verdict.write_refusal_at_node.Goals as goal

pub returns : goal.returns
unfolding refused_data
returns c = piece c.in_ok-begin_object.ensures (piece c.in_ok-key.ensures (piece c.in_ok-write_fault_at_node.ensures c.last_members.ensures))
