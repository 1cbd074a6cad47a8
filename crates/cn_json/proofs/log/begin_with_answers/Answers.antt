use Rattle.cn_json.proofs.Pieces.{piece}
use Rattle.cn_json.proofs.log.begin_with_answers.Goals as goal

pub returns : goal.returns
returns c = piece c.in_ok-begin_object.ensures c.array_at.ensures
