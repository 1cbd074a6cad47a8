use Rattle.cn_json.proofs.Pieces.{piece}
use Rattle.cn_json.proofs.course.begin_with_decisions.Goals as goal

pub returns : goal.returns
returns c = piece c.in_ok-begin_object.ensures (piece c.in_ok-begin_array_at.ensures c.write_each_decision.ensures)
