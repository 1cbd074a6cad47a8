use Rattle.std.proofs.Common.{arith, below_more, sym, true≢false}
use Rattle.cn_views.proofs.visible.meet_alike.Goals as goal

pub loop-state-preserved : goal.loop-state-preserved
loop-state-preserved c = below_more _ _ c.loop-state.invariant (λ p. true≢false (sym (c.if-meet_at.ensures.1 p)))

pub returns : goal.returns
returns c = (
  λ f. absurd (true≢false (sym f)),
  λ m. absurd (c.loop-state.invariant m.0 (omega (arith, m.1, c.states-state-end.ensures.number, c.loop-state-test.false)) m.2),
)
