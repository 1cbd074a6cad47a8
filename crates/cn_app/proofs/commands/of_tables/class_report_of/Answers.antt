use Rattle.std.proofs.Common.{inl, inr, refl}
use Rattle.std.proofs.lemmas.Result.{err_from_is_err_and}
use Rattle.cn_app.proofs.commands.of_tables.class_report_of.Goals as goal

pub returns-in_err-table-clause-reported : goal.returns-in_err-table-clause-reported
returns-in_err-table-clause-reported g c =
    let p = err_from_is_err_and c.from_residual-in_err-table.result c.from_residual-in_err-table.ensures.1 in
    rw (p.1, p.2) (inr (c.in_ok-check_limit.field-0, c.in_ok-check_limit.ensures, inl (c.in_err-table.field-0.0, c.in_err-table.ensures.table, refl)))

pub returns-clause-reported : goal.returns-clause-reported
returns-clause-reported g c = inr (c.in_ok-check_limit.field-0, c.in_ok-check_limit.ensures, inr (c.in_ok-table.table, c.in_ok-table.ensures.table, c.numbers_report.ensures))
