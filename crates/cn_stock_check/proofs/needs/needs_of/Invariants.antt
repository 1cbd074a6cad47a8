use Rattle.std.proofs.Common.{take, []}
use Rattle.cn_stock_check.specs.Needs.{AreNeedsOf}
use Rattle.cn_stock_check.proofs.needs.needs_of.Given as goal

-- the needs of the joins so far
abbrev pub invariant-loop-join : goal.invariant-loop-join
invariant-loop-join l = AreNeedsOf (take l.join-index l.joins) l.start 0 [] l.needs.items
