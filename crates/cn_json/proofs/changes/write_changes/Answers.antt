use Rattle.cn_json.specs.Changes.{changes_data}
use Rattle.cn_json.proofs.Pieces.{piece}
use Rattle.cn_json.proofs.changes.write_changes.Goals as goal

pub returns : goal.returns
unfolding changes_data
returns c = rw (← c.deref.ensures.value, ← c.kind_value.ensures, ← c.name.ensures.value)
    (piece c.in_ok-begin_object.ensures (piece c.in_ok-array_at.ensures (piece c.in_ok-member.ensures (piece c.in_ok-member-2.ensures
    (piece c.in_ok-key.ensures (piece c.in_ok-write_bounds.ensures (piece c.in_ok-option_at.ensures c.end_object.ensures)))))))
