-- Positions of the game as a program has them: with a list of processes.
use Rattle.std.specs.Prelude.{ℕ, zero, suc, ◌+◌, Bool, true, false, cond, nat_eq, ◌&&◌, List}
use Rattle.std.specs.Prelude.{slice_index_or}
use Rattle.cn_table.specs.TypeTable.{TypeTable}
use Rattle.cn_unread.specs.Defended.{Position, Status, moved_first, moved_second}
use Rattle.cn_unread.specs.Defended.Status.{AheadInFirst, AheadInSecond, Lost, Poised}
use Rattle.cn_game.specs.declared.board.Board.{Board}
use Rattle.cn_game.specs.declared.board.Run.{Run}
use Rattle.cn_game.specs.declared.board.Run.TheVariants.{First, Second}
use Rattle.cn_game.specs.declared.board.Standing.{Standing}
use Rattle.cn_game.specs.declared.board.Standing.TheVariants as Now

-- what has come of a process, in the words of the game
abbrev pub status_of : Standing → Status
status_of (Now.Poised o) = Poised o.0
status_of (Now.AheadInFirst o r) = AheadInFirst o.0 r.0
status_of (Now.AheadInSecond o r) = AheadInSecond o.0 r.0
status_of Now.Lost = Lost

-- the status of the process at each place of the list; behind its end nobody moves
abbrev pub statuses : List Standing → ℕ → Status
statuses xs j = status_of (slice_index_or xs j Now.Lost)

abbrev pub position_of : Board → Position
position_of b = record {
  first = b.first.0;
  second = b.second.0;
  status = statuses b.standings.items;
}

-- whether two statuses are one
abbrev pub same : Status → Status → Bool
same (Poised o) (Poised p) = nat_eq o p
same (AheadInFirst o r) (AheadInFirst p s) = nat_eq o p && nat_eq r s
same (AheadInSecond o r) (AheadInSecond p s) = nat_eq o p && nat_eq r s
same Lost Lost = true
same _ _ = false

-- how many of the first n processes have the status
abbrev pub times : Status → (ℕ → Status) → ℕ → ℕ
times s f zero = 0
times s f (suc n) = cond (same s (f 0)) 1 0 + times s (λ j. f (suc j)) n

-- the state of the object in one of the runs
abbrev pub state_in : Run → Position → ℕ
state_in First x = x.first
state_in Second x = x.second

-- the position after process j has applied the operation in the run
abbrev pub moved : TypeTable → Run → Position → ℕ → ℕ → Status → Position
moved t First x j o new = moved_first t x j o new
moved t Second x j o new = moved_second t x j o new

-- a process that has applied the operation in this run alone, and got the response
abbrev pub ahead : Run → ℕ → ℕ → Status
ahead First o r = AheadInFirst o r
ahead Second o r = AheadInSecond o r
