use Rattle.std.proofs.Common.{◌<◌, ℕ}
use Rattle.cn_divisions.specs.Joins.{Tells}
use Rattle.cn_meetings.specs.Sights.{sight_of}
use Rattle.cn_divisions.proofs.joins.are_joined.Given as goal

-- words that begin with the two operations tell none of the operations so far the same
abbrev pub invariant-loop-asked : goal.invariant-loop-asked
invariant-loop-asked l = (o r s : ℕ) → o < l.asked
    → Tells l.setting.table.now (sight_of l.look.sight) l.fn.start l.setting.stock.now.operations.items l.fn.f o r s
    → Tells l.setting.table.now (sight_of l.look.sight) l.fn.start l.setting.stock.now.operations.items l.fn.g o r s → ⊥
