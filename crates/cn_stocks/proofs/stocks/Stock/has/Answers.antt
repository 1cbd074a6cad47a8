use Rattle.cn_stocks.proofs.StockLemmas.{has_iff}
use Rattle.cn_stocks.proofs.stocks.Stock.has.Goals as goal

pub returns : goal.returns
returns c = let l = c.requires.linked in has_iff l.0 c.args.self.now.operations.items c.args.self.now.less l.1 c.args.operation c.is_some.result c.is_some.ensures
