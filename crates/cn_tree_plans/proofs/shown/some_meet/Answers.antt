use Rattle.std.proofs.Common.{List, [], ℕ, ◌≡◌, ◌∙◌, ap, arith, inl, inr, slice_index_or, subst, sym, true≢false}
use Rattle.std.proofs.lemmas.Bool.{cases_lt}
use Rattle.std.proofs.lemmas.List.{get_or_default}
use Rattle.cn_outcomes.specs.PairSets.{HaveCommonPair}
use Rattle.cn_tree_plans.proofs.shown.some_meet.Goals as goal

pub loop-g-preserved : goal.loop-g-preserved
loop-g-preserved c = λ i j l b lj common.
    let at : c.index-sets-g.result ≡ slice_index_or c.args.sets.now c.loop-g.g [] =
    c.index-sets-g.is ∙ get_or_default c.args.sets.now c.loop-g.g c.index-sets-g.result [] c.loop-g-test.true in
    elim (cases_lt i c.loop-g.g) [
      | inl lt ↦ c.loop-g.invariant i j lt b lj common
      | inr ge ↦ (let e : i ≡ c.loop-g.g = omega arith in
          true≢false (sym (c.if-meets_one.ensures.1 (j, omega arith, lj, subst (λ (y : List ℕ). HaveCommonPair y (slice_index_or c.args.sets.now j [])) (ap (λ k. slice_index_or c.args.sets.now k []) e ∙ sym at) common))))
    ]

pub returns : goal.returns
returns c = (
  λ h. absurd (true≢false (sym h)),
  λ h. absurd (let l = h.2 in let m = h.3 in c.loop-g.invariant h.0 h.1 (omega arith) h.2 h.3 h.4),
)
