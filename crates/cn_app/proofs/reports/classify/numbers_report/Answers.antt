use Rattle.std.proofs.Common.{◌∙◌, ap, string_bytes}
use Rattle.cn_app.proofs.reports.classify.numbers_report.Goals as goal

pub returns : goal.returns
returns g c = (
  (c.in_ok-numbers.numbers, c.in_ok-numbers.ensures.numbers, ap string_bytes c.whole.ensures.text ∙ c.in_ok-text_of.ensures),
  c.whole.ensures.outcome,
)
