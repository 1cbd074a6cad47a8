use Rattle.cn_json.specs.Changes.{pair_data}
use Rattle.cn_json.proofs.Pieces.{piece}
use Rattle.cn_json.proofs.changes.PairNumberJsonValue.write.Goals as goal

pub returns : goal.returns
unfolding pair_data
returns c = piece c.in_ok-begin_object.ensures (piece c.in_ok-key.ensures (piece c.in_ok-write_change.ensures
    (piece c.in_ok-key-2.ensures (piece c.in_ok-write_bounds.ensures (piece c.in_ok-key-3.ensures (piece c.in_ok-write_change-2.ensures c.end_object.ensures))))))
