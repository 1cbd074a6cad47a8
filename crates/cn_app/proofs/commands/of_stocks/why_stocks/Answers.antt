use Rattle.std.proofs.Common.{inr}
use Rattle.cn_app.specs.Commands.WhyStocks.{HasWhyStocksReport}
use Rattle.cn_app.proofs.CommandLemmas.Reports.{reported}
use Rattle.cn_app.proofs.commands.of_stocks.why_stocks.Goals as goal

pub returns-clause-told : goal.returns-clause-told
returns-clause-told g c =
    reported g.W.Write.contents (HasWhyStocksReport c.read_table.new.text c.args.limit c.args.all) c.args.output.now c.report.new.self c.why_stocks_report.result c.report.result
    (inr (c.in_ok-table.table, c.in_ok-table.ensures.table, c.why_stocks_report.ensures)) c.report.ensures
