use Rattle.std.proofs.Common.{inl, inr, refl}
use Rattle.std.proofs.lemmas.Result.{err_from_is_err_and}
use Rattle.cn_app.specs.Commands.ExplainStocks.{HasExplainStocksReport}
use Rattle.cn_app.proofs.CommandLemmas.Reports.{reported, silent}
use Rattle.cn_app.proofs.commands.of_stocks.explain_stocks.Goals as goal

pub returns-in_err-table-clause-explained : goal.returns-in_err-table-clause-explained
returns-in_err-table-clause-explained g c =
    let p = err_from_is_err_and c.from_residual.result c.from_residual.ensures.1 in
    let fault = c.in_err-table.field-0.0 in
    rw (p.1, p.2) (inl (fault, inl (fault, c.in_err-table.ensures.table, refl), refl, silent c.args.output.now))

pub returns-in_err-certificate-clause-explained : goal.returns-in_err-certificate-clause-explained
returns-in_err-certificate-clause-explained g c =
    let p = err_from_is_err_and c.from_residual-in_err-certificate.result c.from_residual-in_err-certificate.ensures.1 in
    let fault = c.in_err-certificate.field-0.0 in
    rw (p.1, p.2) (inl (
      fault,
      inr (c.in_ok-table.table, c.in_ok-table.ensures.table, inl (fault, c.in_err-certificate.ensures.right, refl)),
      refl,
      silent c.args.output.now,
    ))

pub returns-clause-explained : goal.returns-clause-explained
returns-clause-explained g c =
    reported g.W.Write.contents (HasExplainStocksReport c.read_table.new.text c.read_right_stock_certificate.new.text c.args.all) c.args.output.now c.report.new.self
    c.explain_stocks_report.result c.report.result
    (inr (
      c.in_ok-table.table,
      c.in_ok-table.ensures.table,
      inr (c.in_ok-certificate.certificate, c.in_ok-certificate.ensures.right, c.explain_stocks_report.ensures),
    )) c.report.ensures
