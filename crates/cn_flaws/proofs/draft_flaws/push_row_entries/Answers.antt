use Rattle.cn_table.proofs.Lists.{two_parts}
use Rattle.cn_flaws.proofs.draft_flaws.push_row_entries.Goals as goal

pub returns : goal.returns
returns c =
    two_parts _ _ _ _ _ _
    (rw (c.as_str-place.ensures.value, c.in_ok-operation.ensures, c.as_str.ensures.value, c.deref.ensures.value) at c.in_ok-push_unknown_entries.ensures)
    (rw (c.as_str-place.ensures.value, c.in_ok-operation.ensures, c.as_str.ensures.value, c.deref-2.ensures.value) at c.push_unknown_entries-2.ensures)
