use Rattle.std.proofs.Common.{◌∙◌, ap, string_bytes}
use Rattle.cn_app.proofs.reports.explain.explain_report.Goals as goal

pub text_of-requires : goal.text_of-requires
text_of-requires c = c.in_ok-explanation.ensures.explained.known

pub returns : goal.returns
returns c = (
  c.accepted_is_right.ensures.number c.args.checked.table c.args.checked.certificate c.requires,
  (c.in_ok-explanation.explanation, c.in_ok-explanation.ensures.explained, ap string_bytes c.whole.ensures.text ∙ c.in_ok-text_of.ensures),
  c.whole.ensures.outcome,
)
