use Rattle.cn_json.specs.Explanation.{explanation_data}
use Rattle.cn_json.proofs.Pieces.{piece}
use Rattle.cn_json.proofs.explanation.write_explanation.Goals as goal

pub returns : goal.returns
unfolding explanation_data
returns c = rw (← c.deref.ensures.value, ← c.ways_left-more.ensures, ← c.name.ensures.value, ← c.rule_value.ensures)
    (piece c.in_ok-begin_object.ensures (piece c.in_ok-array_at.ensures (piece c.in_ok-write_collisions.ensures
    (piece c.in_ok-option_at.ensures (piece c.in_ok-members.ensures (piece c.in_ok-key.ensures (piece c.in_ok-write_type_number.ensures
    (piece c.in_ok-member.ensures (piece c.in_ok-option_at-2.ensures (piece c.in_ok-member-2.ensures (piece c.in_ok-option_at-3.ensures
    c.end_object.ensures)))))))))))
