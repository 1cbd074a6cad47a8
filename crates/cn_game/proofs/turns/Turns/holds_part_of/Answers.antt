use Rattle.std.proofs.Common.{arith}
use Rattle.cn_game.proofs.turns.Turns.holds_part_of.Goals as goal

pub returns : goal.returns
returns c = (
  λ h.
      let p = c.has_part_of.ensures.0 h in
      let q = c.near.ensures.listed p.1 (p.0, p.2, p.3) in (q.0, p.1, q.1, q.2, p.4),
  λ p.
      let part = p.4 in
      let q = c.near.ensures.all p.1 (p.0, p.2, p.3) (omega (arith, part.0, part.1, c.pair.ensures)) in
      c.has_part_of.ensures.1 (q.0, p.1, q.1, q.2, part),
)
