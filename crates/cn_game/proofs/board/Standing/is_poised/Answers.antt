use Rattle.std.proofs.Common.{ap, refl}
use Rattle.cn_game.specs.Boards.{status_of}
use Rattle.cn_game.proofs.board.Standing.is_poised.Goals as goal

pub returns-in-Poised : goal.returns-in-Poised
returns-in-Poised c = (λ _. (c.in-Poised.field-0.0, ap status_of c.in-Poised.is), λ _. refl)
