use Rattle.std.proofs.Common.{All, Contains, take}
use Rattle.cn_table.specs.TypeTable.{transition}
use Rattle.cn_stock_check.proofs.lasting.leads_behind.Given as goal

-- so it does from the states so far
abbrev pub invariant-loop-state : goal.invariant-loop-state
invariant-loop-state l = All (λ q. Contains l.to (transition l.table l.single.0 (transition l.table l.many.0 q).1).1) (take l.state-index l.from)
