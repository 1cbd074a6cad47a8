use Rattle.std.proofs.Common.{inl, inr, refl}
use Rattle.std.proofs.lemmas.Result.{err_from_is_err_and}
use Rattle.cn_app.specs.Commands.CheckUnread.{HasCheckUnreadReport}
use Rattle.cn_app.proofs.CommandLemmas.Reports.{reported, silent}
use Rattle.cn_app.proofs.CommandLemmas.Verdicts.{unread_verdict_told}
use Rattle.cn_app.proofs.commands.of_certificates.check_unread.Goals as goal

pub returns-in_err-table-clause-checked : goal.returns-in_err-table-clause-checked
returns-in_err-table-clause-checked g c =
    let p = err_from_is_err_and c.from_residual.result c.from_residual.ensures.1 in
    let fault = c.in_err-table.field-0.0 in
    rw (p.1, p.2) (inl (fault, inl (fault, c.in_err-table.ensures.table, refl), refl, silent c.args.output.now))

pub returns-clause-checked : goal.returns-clause-checked
returns-clause-checked g c =
    reported g.W.Write.contents (HasCheckUnreadReport c.read_table.new.text c.check_unread_certificate-verdict.new.text c.args.form) c.args.output.now c.report.new.self c.unread_verdict_report.result c.report.result
    (inr (
      c.in_ok-table.table,
      c.in_ok-table.ensures.table,
      unread_verdict_told c.in_ok-table.table c.check_unread_certificate-verdict.new.text c.args.form c.check_unread_certificate-verdict.result c.unread_verdict_report.result
          c.check_unread_certificate-verdict.ensures.checked c.unread_verdict_report.ensures,
    )) c.report.ensures
