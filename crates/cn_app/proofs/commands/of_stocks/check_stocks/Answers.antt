use Rattle.std.proofs.Common.{inl, inr, refl}
use Rattle.std.proofs.lemmas.Result.{err_from_is_err_and}
use Rattle.cn_app.specs.Commands.CheckStocks.{HasCheckStocksReport}
use Rattle.cn_app.proofs.CommandLemmas.Reports.{reported, silent}
use Rattle.cn_app.proofs.CommandLemmas.Verdicts.{stock_verdict_told}
use Rattle.cn_app.proofs.commands.of_stocks.check_stocks.Goals as goal

pub returns-in_err-table-clause-checked : goal.returns-in_err-table-clause-checked
returns-in_err-table-clause-checked g c =
    let p = err_from_is_err_and c.from_residual.result c.from_residual.ensures.1 in
    let fault = c.in_err-table.field-0.0 in
    rw (p.1, p.2) (inl (fault, inl (fault, c.in_err-table.ensures.table, refl), refl, silent c.args.output.now))

pub returns-clause-checked : goal.returns-clause-checked
returns-clause-checked g c =
    reported g.W.Write.contents (HasCheckStocksReport c.read_table.new.text c.check_stock_certificate-verdict.new.text c.args.form) c.args.output.now c.report.new.self c.stock_verdict_report.result c.report.result
    (inr (
      c.in_ok-table.table,
      c.in_ok-table.ensures.table,
      stock_verdict_told c.in_ok-table.table c.check_stock_certificate-verdict.new.text c.args.form c.check_stock_certificate-verdict.result c.stock_verdict_report.result
          c.check_stock_certificate-verdict.ensures.checked c.stock_verdict_report.ensures,
    )) c.report.ensures
