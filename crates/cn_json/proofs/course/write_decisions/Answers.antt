use Rattle.cn_json.specs.Course.{decisions_data}
use Rattle.cn_json.proofs.Pieces.{piece}
use Rattle.cn_json.proofs.course.write_decisions.Goals as goal

pub returns : goal.returns
unfolding decisions_data
returns c = piece c.in_ok-begin_with_decisions.ensures c.end_object.ensures
