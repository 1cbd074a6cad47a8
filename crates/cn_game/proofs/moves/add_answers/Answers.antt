use Rattle.cn_game.proofs.Known.{known_state}
use Rattle.cn_game.proofs.moves.add_answers.Goals as goal

pub add_ahead-requires-clause-state : goal.add_ahead-requires-clause-state
add_ahead-requires-clause-state c = known_state c.args.table.now c.args.board.now c.args.step.run c.requires.board
