use Rattle.std.proofs.Common.{◌≡◌, ◌∙◌, arith, ap, get_or, inl, inr, refl, subst, sym, true≢false, slice_get}
use Rattle.std.proofs.lemmas.Option.{same_Some, slice_get-get_or, slice_get_within}
use Rattle.cn_outcomes.proofs.Packing.{below_or_last}
use Rattle.cn_divisions.specs.Looks.{ShareResponse}
use Rattle.cn_divisions.proofs.looks.share_in_one.Goals as goal

pub returns-then-share_response : goal.returns-then-share_response
returns-then-share_response c =
    let list = c.args.alike.now in
    let k = c.loop-place.place in
    (λ h. (k, get_or list k 0, slice_get-get_or list k 0 c.loop-place-test.true, c.share_response.ensures.0 c.if-share_response.true), λ h. refl)

pub loop-place-preserved : goal.loop-place-preserved
loop-place-preserved c i set l at h = elim (below_or_last i c.loop-place.place l) [
  | inl m ↦ c.loop-place.invariant i set m at h
  | inr e ↦ (
      let list = c.args.alike.now in
      let k = c.loop-place.place in
      let same : set ≡ get_or list k 0 = same_Some _ _ (sym at ∙ (ap (slice_get list) e ∙ slice_get-get_or list k 0 c.loop-place-test.true)) in
      true≢false (sym (c.share_response.ensures.1 (subst (ShareResponse c.args.a.now c.args.b.now) same h)) ∙ c.if-share_response.false)
      )
]

pub returns : goal.returns
returns c = (
  λ h. absurd (true≢false (sym h)),
  λ h. absurd (c.loop-place.invariant h.0 h.1 (let l = slice_get_within c.args.alike.now h.0 h.1 h.2 in omega (arith, l, c.loop-place-test.false)) h.2 h.3),
)
