-- Turns in order of the states of their positions.
use Rattle.std.specs.Prelude.{ℕ, ◌+◌, ◌*◌, List}
use Rattle.std.specs.List.Sorted.{IsNonDecreasingBy}
use Rattle.cn_game.specs.declared.board.Board.{Board}
use Rattle.cn_game.specs.declared.trap.Turn.{Turn}

-- the number of the pair of the states of the two runs
abbrev pub pair_of : Board → ℕ
pair_of b = 256 * b.first.0 + b.second.0

-- turns at positions with lesser pairs of states come first
abbrev pub AreInOrder : List Turn → Type 0
AreInOrder turns = IsNonDecreasingBy (λ turn. pair_of turn.board) turns
