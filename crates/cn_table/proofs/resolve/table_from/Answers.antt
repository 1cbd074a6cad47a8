use Rattle.cn_table.proofs.Faultless.{is_type_table}
use Rattle.cn_table.specs.DraftView.{draft_view}
use Rattle.cn_table.proofs.resolve.table_from.Goals as goal

pub invariant_of-result : goal.invariant_of-result
invariant_of-result c = is_type_table (draft_view c.args.draft) _ c.requires.names c.requires.counts c.requires.distinct c.requires.lengths
    (rw (c.deref.ensures.value, c.deref-2.ensures.value, c.deref-3.ensures.value) at c.in_ok-operations.ensures)
