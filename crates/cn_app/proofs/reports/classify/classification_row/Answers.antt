use Rattle.std.proofs.Common.{◌∙◌}
use Rattle.cn_app.proofs.ReportLemmas.Words.{shown_words}
use Rattle.cn_app.proofs.reports.classify.classification_row.Goals as goal

pub returns : goal.returns
returns c =
    let recoverable = shown_words _ c.as_deref.result c.as_deref.ensures.cases ∙ c.in_ok-recoverable.ensures in
    let without_read = shown_words _ c.as_deref-2.result c.as_deref-2.ensures.cases ∙ c.in_ok-without_read.ensures in
    rw (← recoverable, ← without_read, ← c.in_ok-number.ensures, ← c.as_str.ensures.value) c.number_row.ensures
