-- The states of a position of a table.
use Rattle.std.proofs.Common.{◌<◌, length}
use Rattle.cn_table.specs.TypeTable.{TypeTable}
use Rattle.cn_game.specs.Boards.{position_of, state_in}
use Rattle.cn_game.specs.TrapLists.{IsBoardOf}
use Rattle.cn_game.specs.declared.board.Board.{Board}
use Rattle.cn_game.specs.declared.board.Run.{Run}
use Rattle.cn_game.specs.declared.board.Run.TheVariants.{First, Second}

-- in each run the state is the table's
pub known_state : (t : TypeTable) (b : Board) (run : Run) → IsBoardOf t b
    → state_in run (position_of b) < length t.states
known_state t b First is = is.0
known_state t b Second is = is.1
