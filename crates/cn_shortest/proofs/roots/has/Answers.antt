use Rattle.std.proofs.Common.{◌≡◌, ◌∙◌, ap, arith, get_or, inl, inr, List, refl, sym, true≢false, Some, slice_get}
use Rattle.std.specs.Prelude.{ℕ}
use Rattle.std.proofs.lemmas.Bool.Decides.{Decides-eqb, not_from_Decides}
use Rattle.std.proofs.lemmas.Option.{same_Some, slice_get-get_or, slice_get_within}
use Rattle.std.proofs.lemmas.Slice.Eq.{slice_eq-Decides}
use Rattle.cn_shortest.specs.declared.sizes.Sizes.{Sizes}
use Rattle.cn_shortest.proofs.Elements.{below_or_last, no_sizes}
use Rattle.cn_shortest.proofs.roots.has.Goals as goal

pub returns-then-eq : goal.returns-then-eq
returns-then-eq c =
    let all = c.args.list.now in
    let none : Sizes = no_sizes in
    let same = (slice_eq-Decides Decides-eqb (get_or all c.loop-place.place none).counts c.args.sizes.now.counts c.eq.result c.eq.ensures).0 c.if-eq.true in
    (λ h. (c.loop-place.place, get_or all c.loop-place.place none, slice_get-get_or all c.loop-place.place none c.loop-place-test.true, same), λ h. refl)

pub loop-place-preserved : goal.loop-place-preserved
loop-place-preserved c i s l at h = elim (below_or_last i c.loop-place.place l) [
  | inl m ↦ c.loop-place.invariant i s m at h
  | inr e ↦ (
      let all = c.args.list.now in
      let k = c.loop-place.place in
      let none : Sizes = no_sizes in
      let here = get_or all k none in
      let same : here ≡ s = same_Some _ _ (sym (slice_get-get_or all k none c.loop-place-test.true) ∙ (ap (slice_get all) (sym e) ∙ at)) in
      not_from_Decides c.eq.result (slice_eq-Decides Decides-eqb here.counts c.args.sizes.now.counts c.eq.result c.eq.ensures) c.if-eq.false (ap (λ (x : Sizes). x.counts) same ∙ h)
      )
]

pub returns : goal.returns
returns c = (
  λ h. absurd (true≢false (sym h)),
  λ h. absurd (c.loop-place.invariant h.0 h.1 (let l = slice_get_within c.args.list.now h.0 h.1 h.2 in omega (arith, l, c.loop-place-test.false)) h.2 h.3),
)
