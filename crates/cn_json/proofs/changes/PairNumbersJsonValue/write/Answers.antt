use Rattle.cn_json.specs.Changes.{pair_numbers_data}
use Rattle.cn_json.proofs.Pieces.{piece}
use Rattle.cn_json.proofs.changes.PairNumbersJsonValue.write.Goals as goal

pub returns : goal.returns
unfolding pair_numbers_data
returns c = rw (← c.deref.ensures.value)
    (piece c.in_ok-begin_object.ensures (piece c.in_ok-member.ensures (piece c.in_ok-array_at.ensures c.end_object.ensures)))
