use Rattle.std.proofs.Common.{ℕ, ◌<◌, length}
use Rattle.cn_unread.specs.Defended.Status.{Poised}
use Rattle.cn_game.specs.Boards.{moved, position_of}
use Rattle.cn_game.specs.TrapLists.{IsCaught}
use Rattle.cn_game.proofs.trap.catches_each.Given as goal

-- each so far is caught
abbrev pub invariant-loop-next : goal.invariant-loop-next
invariant-loop-next l = (m : ℕ) → m < l.next → IsCaught l.turns (length l.board.standings.items) (moved l.table l.run (position_of l.board) l.process l.operation.0 (Poised m))
