use Rattle.std.proofs.Common.{◌≡◌, ◌∙◌, inl, inr, arith, length, refl, subst, sym, true≢false, slice_get, Some}
use Rattle.std.proofs.lemmas.Bool.Decides.{Decides-eqb, not_from_Decides}
use Rattle.std.proofs.lemmas.Option.{same_Some, slice_get_read, slice_get_within}
use Rattle.std.proofs.lemmas.Slice.Eq.{slice_eq-Decides}
use Rattle.cn_outcomes.proofs.Packing.{below_or_last}
use Rattle.cn_divisions.specs.declared.divisions.Division.{Division}
use Rattle.cn_divisions.proofs.divisions.have_sizes.Goals as goal

pub returns-then-eq : goal.returns-then-eq
returns-then-eq c =
    let all = c.args.divisions.now in
    let here = slice_get_read all (length all) c.loop-division.division-index c.division-item.result refl c.loop-division-test.true c.division-item.is in
    let same = (slice_eq-Decides Decides-eqb c.as_slice.result.now c.args.sizes.now c.eq.result c.eq.ensures).0 c.if-eq.true in
    (λ h. (c.loop-division.division-index, c.division-item.result, here, sym c.as_slice.ensures.value ∙ same), λ h. refl)

pub loop-division-preserved : goal.loop-division-preserved
loop-division-preserved c i d l e h = elim (below_or_last i c.loop-division.division-index l) [
  | inl u ↦ c.loop-division.invariant i d u e h
  | inr u ↦ (
      let all = c.args.divisions.now in
      let here = slice_get_read all (length all) c.loop-division.division-index c.division-item.result refl c.loop-division-test.true c.division-item.is in
      let same : c.division-item.result ≡ d = same_Some _ _ (sym here ∙ subst (λ k. slice_get all k ≡ Some d) u e) in
      not_from_Decides c.eq.result (slice_eq-Decides Decides-eqb c.as_slice.result.now c.args.sizes.now c.eq.result c.eq.ensures) c.if-eq.false
      (c.as_slice.ensures.value ∙ subst (λ (x : Division). x.sizes.items ≡ c.args.sizes.now) (sym same) h)
      )
]

pub returns : goal.returns
returns c = (
  λ h. absurd (true≢false (sym h)),
  λ h. absurd (c.loop-division.invariant h.0 h.1 (let l = slice_get_within c.args.divisions.now h.0 h.1 h.2 in omega (arith, l, c.loop-division-test.false)) h.2 h.3),
)
