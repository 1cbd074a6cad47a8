use Rattle.std.proofs.Common.{inr}
use Rattle.cn_app.specs.Commands.FindStocks.{HasFindStocksReport}
use Rattle.cn_app.proofs.CommandLemmas.Reports.{reported}
use Rattle.cn_app.proofs.commands.of_stocks.find_stocks.Goals as goal

pub returns-clause-found : goal.returns-clause-found
returns-clause-found g c =
    reported g.W.Write.contents (HasFindStocksReport c.read_table.new.text c.args.limit) c.args.output.now c.report.new.self c.find_stocks_report.result c.report.result
    (inr (c.in_ok-table.table, c.in_ok-table.ensures.table, c.find_stocks_report.ensures)) c.report.ensures
