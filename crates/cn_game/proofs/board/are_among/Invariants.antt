use Rattle.std.proofs.Common.{ℕ, ◌<◌, ◌≤◌, length}
use Rattle.cn_game.specs.Boards.{statuses, times}
use Rattle.cn_game.proofs.board.are_among.Given as goal

-- each so far is as often among the others
abbrev pub invariant-loop-standing : goal.invariant-loop-standing
invariant-loop-standing l = (j : ℕ) → j < l.standing-index → times (statuses l.few j) (statuses l.few) (length l.few) ≤ times (statuses l.few j) (statuses l.many) (length l.many)
