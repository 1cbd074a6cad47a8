use Rattle.std.proofs.Common.{◌∙◌, ◌++◌, ap, codes, string_bytes}
use Rattle.cn_app.proofs.reports.find_stocks.find_stocks_report.Goals as goal

pub returns : goal.returns
returns g c = (
  record {
    searched = c.in_ok-certificate.ensures.searched;
    certificate = c.in_ok-certificate.certificate;
    found = c.in_ok-certificate.ensures.certificate;
    bounds = c.right_bounds_hold.ensures c.args.table.now c.in_ok-certificate.certificate c.in_ok-certificate.ensures.certificate.right;
    written = ap string_bytes c.whole.ensures.text ∙ c.in_ok-with_line_feed.ensures ∙ ap (λ text. text ++ codes "\n") c.in_ok-text.ensures;
  },
  c.whole.ensures.outcome,
)
