use Rattle.std.proofs.Common.{◌∙◌, ap, string_bytes}
use Rattle.cn_app.proofs.reports.explain_stocks.explain_stocks_report.Goals as goal

pub returns : goal.returns
returns c = (
  c.right_bounds_hold.ensures c.args.table.now c.args.certificate.now c.requires,
  ap string_bytes c.whole.ensures.text ∙ c.in_ok-text.ensures,
  c.whole.ensures.outcome,
)
