use Rattle.std.proofs.Common.{◌∙◌, arith, below_more, refl, sym, true≢false}
use Rattle.cn_signs.proofs.check.all_tell.Goals as goal

pub loop-state-preserved-then-not-has : goal.loop-state-preserved-then-not-has
loop-state-preserved-then-not-has c = below_more _ _ c.loop-state.invariant (λ h. absurd (true≢false (sym (c.has.ensures.1 h) ∙ c.if-not-has.true)))

pub loop-state-preserved : goal.loop-state-preserved
loop-state-preserved c = below_more _ _ c.loop-state.invariant (λ _. c.some_tells.ensures.0 c.if-not-some_tells.false)

pub returns-then-not-some_tells : goal.returns-then-not-some_tells
returns-then-not-some_tells c = (
  λ f. absurd (true≢false (sym f)),
  λ all. absurd (true≢false (sym (c.some_tells.ensures.1 (all c.loop-state.state (c.has.ensures.0 c.if-not-has.false))) ∙ c.if-not-some_tells.true)),
)

pub returns : goal.returns
returns c = (λ _ q h. c.loop-state.invariant q (omega (arith, c.requires.known q h, c.loop-state-test.false, c.states-state-end.ensures.number)) h, λ _. refl)
