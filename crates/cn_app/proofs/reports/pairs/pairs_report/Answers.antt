use Rattle.std.proofs.Common.{◌∙◌, ap, string_bytes}
use Rattle.cn_app.proofs.reports.pairs.pairs_report.Goals as goal

pub returns : goal.returns
returns g c = (
  (
    c.in_ok-pairs.pairs,
    record {
      number = c.in_ok-pairs.ensures.number;
      alone = c.in_ok-pairs.ensures.alone;
      pairs = c.in_ok-pairs.ensures.pairs;
      smallest = c.in_ok-pairs.ensures.smallest;
    },
    ap string_bytes c.whole.ensures.text ∙ c.in_ok-text_of.ensures,
  ),
  c.whole.ensures.outcome,
)
