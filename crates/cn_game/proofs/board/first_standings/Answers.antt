use Rattle.cn_game.proofs.Starts.{start_statuses}
use Rattle.cn_game.proofs.board.first_standings.Goals as goal

pub returns-clause-statuses : goal.returns-clause-statuses
returns-clause-statuses c j l = rw (c.with-2.ensures, c.with.ensures, c.poised.ensures) (start_statuses c.args.operations.now c.args.a c.args.b _ _ c.requires.a c.requires.b j l)
