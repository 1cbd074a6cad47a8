use Rattle.cn_json.specs.Numbers.{classification_data}
use Rattle.cn_json.proofs.Pieces.{piece}
use Rattle.cn_json.proofs.numbers.write_classification.Goals as goal

pub returns : goal.returns
unfolding classification_data
returns c = piece c.in_ok-begin_object.ensures (piece c.in_ok-member.ensures (piece c.in_ok-key.ensures (piece c.in_ok-write_type_number.ensures c.write_recoverable.ensures)))
