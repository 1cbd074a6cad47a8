use Rattle.std.proofs.Common.{ℕ, ◌∙◌, ap, arith, get_or, inl, inr, subst, sym, true≢false}
use Rattle.std.proofs.lemmas.List.{get_or_default}
use Rattle.cn_outcomes.proofs.LastProcess.{same_or_not}
use Rattle.cn_collisions.specs.declared.ways.Step.{Step}
use Rattle.cn_collisions.specs.Steps.{LeadsOnward}
use Rattle.cn_collisions.proofs.ways.first_opening.Goals as goal

pub loop-step-preserved : goal.loop-step-preserved
loop-step-preserved c k d l leads =
    let a = c.args in
    let steps = a.openings.now in
    let i = c.loop-step.step-index in
    elim (same_or_not k i) [
      | inl e ↦ (let here = subst (λ (s : Step). LeadsOnward a.view.now a.target.now a.left s.prefix) (ap (λ (n : ℕ). get_or steps n d) e ∙ get_or_default steps i d _ c.loop-step-test.true) leads in
          true≢false (sym (c.leads_into.ensures.1 here) ∙ c.if-leads_into.false))
      | inr n ↦ c.loop-step.invariant k d (omega (arith, l, n)) leads
    ]

pub returns-clause-none : goal.returns-clause-none
returns-clause-none c k d inside = c.loop-step.invariant k d (omega (arith, inside, c.loop-step-test.false))
