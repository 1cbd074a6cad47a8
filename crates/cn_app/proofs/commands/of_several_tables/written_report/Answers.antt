use Rattle.std.proofs.Common.{inl, inr, refl}
use Rattle.std.proofs.lemmas.Result.{err_from_is_err_and}
use Rattle.cn_app.proofs.CommandLemmas.Reports.{silent}
use Rattle.cn_app.proofs.commands.of_several_tables.written_report.Goals as goal

pub returns-in_err-report-clause-written : goal.returns-in_err-report-clause-written
returns-in_err-report-clause-written g c =
    let p = err_from_is_err_and c.from_residual.result c.from_residual.ensures.1 in
    rw (p.1, p.2) (inl (c.in_err-report.field-0.0, c.in_err-report.ensures.reported, refl, silent c.args.output.now))

pub returns-in_err-write-clause-written : goal.returns-in_err-write-clause-written
returns-in_err-write-clause-written g c =
    let p = err_from_is_err_and c.from_residual-in_err-write.result c.from_residual-in_err-write.ensures.1 in
    rw (p.1, p.2) (inr (c.in_ok-report.report, c.in_ok-report.ensures.reported, c.in_err-write.ensures))
