use Rattle.cn_json.specs.Pairs.{pairs_data}
use Rattle.cn_json.proofs.Pieces.{piece}
use Rattle.cn_json.proofs.pairs.write_pairs.Goals as goal

pub returns : goal.returns
unfolding pairs_data
returns c = rw (← c.deref.ensures.value, ← c.name.ensures.value, ← c.deref-2.ensures.value, ← c.deref-3.ensures.value)
    (piece c.in_ok-begin_object.ensures (piece c.in_ok-array_at.ensures (piece c.in_ok-member.ensures (piece c.in_ok-key.ensures
    (piece c.in_ok-write_exact.ensures (piece c.in_ok-array_at-2.ensures (piece c.in_ok-array_at-3.ensures c.end_object.ensures)))))))
