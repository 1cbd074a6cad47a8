use Rattle.std.proofs.Common.{inl, inr, refl}
use Rattle.std.proofs.lemmas.Result.{err_from_is_err_and}
use Rattle.cn_app.specs.Commands.CheckShortest.{HasCheckShortestReport}
use Rattle.cn_app.proofs.CommandLemmas.Reports.{reported, silent}
use Rattle.cn_app.proofs.commands.of_plan_certificates.check_shortest.Goals as goal

pub returns-in_err-table-clause-checked : goal.returns-in_err-table-clause-checked
returns-in_err-table-clause-checked g c =
    let p = err_from_is_err_and c.from_residual.result c.from_residual.ensures.1 in
    let fault = c.in_err-table.field-0.0 in
    rw (p.1, p.2) (inl (fault, inl (fault, c.in_err-table.ensures.table, refl), refl, silent c.args.output.now))

pub returns-clause-checked : goal.returns-clause-checked
returns-clause-checked g c =
    reported g.W.Write.contents (HasCheckShortestReport c.read_table.new.text c.check_tree_certificate-verdict.new.text c.args.form) c.args.output.now c.report.new.self c.plan_verdict_report.result c.report.result
    (inr (
      c.in_ok-table.table,
      c.in_ok-table.ensures.table,
      (c.check_tree_certificate-verdict.result, c.check_tree_certificate-verdict.ensures.checked, c.plan_verdict_report.ensures),
    )) c.report.ensures
