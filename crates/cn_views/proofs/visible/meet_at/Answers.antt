use Rattle.std.proofs.Common.{arith, below_more, sym, true≢false}
use Rattle.cn_views.proofs.visible.meet_at.Goals as goal

pub loop-response-preserved : goal.loop-response-preserved
loop-response-preserved c = below_more _ _ c.loop-response.invariant (λ p. true≢false (sym (c.if-meet_with.ensures.1 p)))

pub returns : goal.returns
returns c = (
  λ f. absurd (true≢false (sym f)),
  λ m. absurd (c.loop-response.invariant m.0 (omega (arith, m.1, c.responses-response-end.ensures.number, c.loop-response-test.false)) (m.2, m.3)),
)
