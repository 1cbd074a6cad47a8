use Rattle.std.proofs.Common.{ℕ, ◌<◌}
use Rattle.cn_stock_check.specs.Needs.{ConnectFrom}
use Rattle.cn_stock_check.proofs.stocks.first_open.Given as goal

-- the joins connect the stocks from the states so far
abbrev pub invariant-loop-start : goal.invariant-loop-start
invariant-loop-start l = (start : ℕ) → start < l.start → ConnectFrom l.table l.n l.joins start
