use Rattle.cn_json.specs.Recoverable.{recoverable_data}
use Rattle.cn_json.proofs.Pieces.{piece}
use Rattle.cn_json.proofs.recoverable.write_explanation.Goals as goal

pub returns : goal.returns
unfolding recoverable_data
returns c = rw (← c.name.ensures.value)
    (piece c.in_ok-begin_object.ensures (piece c.in_ok-member.ensures (piece c.in_ok-key.ensures (piece c.in_ok-write_exact.ensures
    (piece c.in_ok-option_at.ensures (piece c.in_ok-option_at-2.ensures c.end_object.ensures))))))
