use Rattle.std.proofs.Common.{◌∙◌, ap, string_bytes}
use Rattle.cn_app.proofs.reports.why_unread.why_unread_report.Goals as goal

pub unread_text-requires : goal.unread_text-requires
unread_text-requires g c = c.in_ok-explanation.ensures.known

pub returns : goal.returns
returns g c = (
  record {
    explanation = c.in_ok-explanation.explanation;
    explains = c.in_ok-explanation.ensures;
    written = ap string_bytes c.whole.ensures.text ∙ c.in_ok-unread_text.ensures;
  },
  c.whole.ensures.outcome,
)
