use Rattle.std.proofs.Common.{ℕ, List, ◌<◌, ◌∷◌, length}
use Rattle.cn_stocks.specs.Words.{HaveSame}
use Rattle.cn_meetings.specs.Meeting.{Sight}
use Rattle.cn_divisions.specs.Levels.{AreStarts, HasStarts}
use Rattle.cn_divisions.proofs.levels.Setting.less_starts.Given as goal

abbrev pub invariant-loop-operation : goal.invariant-loop-operation
invariant-loop-operation l = (sight : Sight) → AreStarts l.self.table.now sight l.self.level.now.stocks.list.items (length l.self.level.now.stocks.list.items) l.fn.starts.sets.items → (x : ℕ) (rest : List ℕ) → x < l.operation → HaveSame l.self.stock.now.operations.items (x ∷ rest) → HasStarts l.self.table.now sight rest l.set
