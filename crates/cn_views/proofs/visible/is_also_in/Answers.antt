use Rattle.std.proofs.Common.{arith, below_more, sym, true≢false}
use Rattle.cn_views.proofs.visible.is_also_in.Goals as goal

pub loop-other-preserved : goal.loop-other-preserved
loop-other-preserved c = below_more _ _ c.loop-other.invariant (λ p. true≢false (sym (c.if-has_alike.ensures.1 p)))

pub returns : goal.returns
returns c = (
  λ f. absurd (true≢false (sym f)),
  λ m. absurd (c.loop-other.invariant m.0 (omega (arith, m.1, c.states-other-end.ensures.number, c.loop-other-test.false)) (m.2, m.3)),
)
