use Rattle.std.proofs.Common.{arith, sym, true≢false}
use Rattle.cn_outcomes.proofs.BitSets.{member_below}
use Rattle.cn_outcomes.proofs.bits.Bits.contains.Goals as goal

pub returns-then-number-ge-WIDTH-clause-found : goal.returns-then-number-ge-WIDTH-clause-found
returns-then-number-ge-WIDTH-clause-found c = rw (← c.self.view_is) (
  λ f. absurd (true≢false (sym f)),
  λ b. absurd (let l = member_below 16 c.self.inside.0 c.args.number (omega arith) b in omega (arith, l, c.if-number-ge-WIDTH.true)),
)
