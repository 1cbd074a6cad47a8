use Rattle.std.proofs.Common.{◌≡◌, ◌≤◌}
use Rattle.cn_game.specs.Boards.{status_of, statuses, times}
use Rattle.cn_game.proofs.board.occurrences.Given as goal

-- what is counted so far
abbrev pub invariant-loop-standing : goal.invariant-loop-standing
invariant-loop-standing l = (l.count ≡ times (status_of l.one) (statuses l.standings) l.standing-index) × (l.count ≤ l.standing-index)
