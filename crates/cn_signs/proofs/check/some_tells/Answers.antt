use Rattle.std.proofs.Common.{arith, below_more, refl, sym, true≢false}
use Rattle.cn_signs.proofs.check.some_tells.Goals as goal

pub loop-number-preserved : goal.loop-number-preserved
loop-number-preserved c = below_more _ _ c.loop-number.invariant (λ h. true≢false (sym (c.if-tells.ensures.1 h)))

pub returns-then-tells : goal.returns-then-tells
returns-then-tells c = (λ _. (c.loop-number.number-index, c.loop-number-test.true, c.tells.ensures.0 c.if-tells.true), λ _. refl)

pub returns : goal.returns
returns c = (λ f. absurd (true≢false (sym f)), λ m. absurd (c.loop-number.invariant m.0 (omega (arith, m.1, c.loop-number-test.false)) m.2))
