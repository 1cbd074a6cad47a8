use Rattle.std.proofs.Common.{◌∙◌, arith, below_more, refl, sym, true≢false}
use Rattle.cn_signs.proofs.ends.all_lead_out.Goals as goal

pub loop-number-preserved : goal.loop-number-preserved
loop-number-preserved c = below_more _ _ c.loop-number.invariant (c.leads_out.ensures.0 c.if-not-leads_out.false)

pub returns-then-not-leads_out : goal.returns-then-not-leads_out
returns-then-not-leads_out c = (
  λ f. absurd (true≢false (sym f)),
  λ all. absurd (true≢false (sym (c.leads_out.ensures.1 (all c.loop-number.number-index c.loop-number-test.true)) ∙ c.if-not-leads_out.true)),
)

pub returns : goal.returns
returns c = (λ _ i l. c.loop-number.invariant i (omega (arith, l, c.loop-number-test.false)), λ _. refl)
