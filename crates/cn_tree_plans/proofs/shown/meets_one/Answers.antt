use Rattle.std.proofs.Common.{List, [], ℕ, ◌≡◌, ◌∙◌, ap, arith, inl, inr, slice_index_or, subst, sym, true≢false}
use Rattle.std.proofs.lemmas.Bool.{cases_lt}
use Rattle.std.proofs.lemmas.List.{get_or_default}
use Rattle.cn_outcomes.specs.PairSets.{HaveCommonPair}
use Rattle.cn_tree_plans.proofs.shown.meets_one.Goals as goal

pub loop-h-preserved : goal.loop-h-preserved
loop-h-preserved c = λ j f l common.
    let at : c.index-sets-h.result ≡ slice_index_or c.args.sets.now c.loop-h.h [] =
    c.index-sets-h.is ∙ get_or_default c.args.sets.now c.loop-h.h c.index-sets-h.result [] c.loop-h-test.true in
    elim (cases_lt j c.loop-h.h) [
      | inl lt ↦ c.loop-h.invariant j f lt common
      | inr ge ↦ (let e : j ≡ c.loop-h.h = omega arith in
          true≢false (sym (c.if-meets.ensures.1 (subst (λ (y : List ℕ). HaveCommonPair c.args.set.now y) (ap (λ k. slice_index_or c.args.sets.now k []) e ∙ sym at) common))))
    ]

pub returns : goal.returns
returns c = (
  λ h. absurd (true≢false (sym h)),
  λ h. absurd (let l = h.2 in c.loop-h.invariant h.0 h.1 (omega arith) h.3),
)
