use Rattle.cn_json.specs.Unread.{unread_explanation_data}
use Rattle.cn_json.proofs.Pieces.{piece}
use Rattle.cn_json.proofs.unread.write_explanation.Goals as goal

pub returns : goal.returns
unfolding unread_explanation_data
returns c = rw (← c.deref.ensures.value, ← c.name.ensures.value, ← c.rule_of.ensures, ← c.rule_value.ensures, ← c.telling_value.ensures, ← c.is_with_reads.ensures)
    (piece c.in_ok-begin_object.ensures (piece c.in_ok-write_merged.ensures (piece c.in_ok-member.ensures (piece c.in_ok-write_refuted.ensures
    (piece c.in_ok-member-2.ensures (piece c.in_ok-option_at.ensures (piece c.in_ok-member-3.ensures (piece c.in_ok-member-4.ensures
    (piece c.in_ok-key.ensures (piece c.in_ok-write_bounds.ensures (piece c.in_ok-option_at-2.ensures c.end_object.ensures)))))))))))
