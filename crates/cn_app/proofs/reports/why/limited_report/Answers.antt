use Rattle.std.proofs.Common.{inr}
use Rattle.cn_app.proofs.ReportLemmas.FoundCertificates.{found_is_accepted}
use Rattle.cn_app.proofs.reports.why.limited_report.Goals as goal

pub explain_report-requires : goal.explain_report-requires
explain_report-requires g c =
    found_is_accepted c.accepted_is_right.ensures.found c.args.table c.args.limit c.in_ok-certificate.certificate c.in_ok-certificate.ensures

pub returns : goal.returns
returns g c = inr (c.in_ok-certificate.certificate, c.in_ok-certificate.ensures, c.explain_report.ensures)
