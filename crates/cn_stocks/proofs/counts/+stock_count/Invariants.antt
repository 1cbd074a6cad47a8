use Rattle.std.proofs.Common.{◌+◌}
use Rattle.cn_stocks.proofs.counts.+stock_count.Given as goal

abbrev pub decreases-stock_count : goal.decreases-stock_count
decreases-stock_count l = l.operations + l.n
