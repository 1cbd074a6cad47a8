use Rattle.std.proofs.Common.{◌+◌, ◌-◌, length}
use Rattle.cn_stock_check.proofs.stocks.+all_connected.Given as goal

abbrev pub decreases-all_connected : goal.decreases-all_connected
decreases-all_connected l = l.more + (length l.table.now.operations - l.next)
