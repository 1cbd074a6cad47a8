use Rattle.std.proofs.Common.{length, arith, refl}
use Rattle.cn_game.specs.Boards.{statuses}
use Rattle.cn_game.proofs.Counts.{all_among}
use Rattle.cn_game.proofs.board.are_among.Goals as goal

pub returns : goal.returns
returns c = (
  λ _ s. all_among (length c.args.few.now) (length c.args.many.now) (statuses c.args.few.now) (statuses c.args.many.now)
      (λ j l. c.loop-standing.invariant j (omega (arith, l, c.loop-standing-test.false))) s,
  λ _. refl,
)
