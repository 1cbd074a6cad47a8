use Rattle.std.proofs.Common.{◌∙◌, ap, string_bytes}
use Rattle.cn_app.proofs.reports.why.reasons_report.Goals as goal

pub text_of-requires : goal.text_of-requires
text_of-requires g c = c.in_ok-explanation.ensures.told.explains.known

pub returns : goal.returns
returns g c = (
  record {
    explanation = c.in_ok-explanation.explanation;
    explains = c.in_ok-explanation.ensures.told;
    shortest = c.in_ok-shortest.shortest;
    is_shortest = c.in_ok-shortest.ensures;
    written = ap string_bytes c.whole.ensures.text ∙ c.in_ok-text_of.ensures;
  },
  c.whole.ensures.outcome,
)
