use Rattle.std.proofs.Common.{◌∙◌, ap, string_bytes}
use Rattle.cn_app.proofs.reports.why_recoverable.why_recoverable_report.Goals as goal

pub recoverable_text-requires : goal.recoverable_text-requires
recoverable_text-requires g c = c.in_ok-explanation.ensures.known

pub returns : goal.returns
returns g c = (
  record {
    explanation = c.in_ok-explanation.explanation;
    explains = c.in_ok-explanation.ensures;
    written = ap string_bytes c.whole.ensures.text ∙ c.in_ok-recoverable_text.ensures;
  },
  c.whole.ensures.outcome,
)
