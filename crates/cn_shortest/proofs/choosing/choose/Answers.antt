use Rattle.std.proofs.Common.{◌≡◌, ◌+◌, ◌∙◌, List, ap, arith, inl, inr, length, refl, subst, sym, Some}
use Rattle.std.specs.Prelude.{All, slice_get}
use Rattle.std.proofs.lemmas.Option.{same_Some, slice_get_read, slice_get_within}
use Rattle.cn_meetings.specs.Sights.{sight_of}
use Rattle.cn_shortest.specs.Choosing.{HasNone}
use Rattle.cn_shortest.specs.Loads.{table_of}
use Rattle.cn_shortest.specs.Sizes.{AreOf}
use Rattle.cn_shortest.specs.declared.roots.SightRoots.{SightRoots}
use Rattle.cn_shortest.specs.declared.sizes.Sizes.{Sizes}
use Rattle.cn_shortest.proofs.Choices.{chosen, none_left}
use Rattle.cn_shortest.proofs.Elements.{below_or_last, read_at}
use Rattle.cn_shortest.proofs.choosing.choose.Goals as goal

pub place_of-requires-clause-sizes : goal.place_of-requires-clause-sizes
place_of-requires-clause-sizes c =
    let all = c.as_slice-all.result.now in
    let r = c.index-all-which.result in
    let at = slice_get_read all (length all) c.loop-which.which r refl c.loop-which-test.true c.index-all-which.is in
    subst (All (λ (s : Sizes). AreOf (length c.args.rows.now + 1) s.counts)) (sym c.as_slice-list.ensures.value)
    (c.requires.roots c.loop-which.which r (ap (λ (l : List SightRoots). slice_get l c.loop-which.which) (sym c.as_slice-all.ensures.value) ∙ at))

pub loop-which-preserved : goal.loop-which-preserved
loop-which-preserved c i r l at = elim (below_or_last i c.loop-which.which l) [
  | inl m ↦ c.loop-which.invariant i r m at
  | inr e ↦ (
      let all = c.as_slice-all.result.now in
      let k = c.loop-which.which in
      let x = c.index-all-which.result in
      let best = table_of c.args.rows.now in
      let n = length c.args.rows.now + 1 in
      let here = ap (λ (l : List SightRoots). slice_get l k) (sym c.as_slice-all.ensures.value) ∙ slice_get_read all (length all) k x refl c.loop-which-test.true c.index-all-which.is in
      let same : x ≡ r = same_Some _ _ (sym here ∙ (ap (slice_get c.args.roots.now.by_sight.items) (sym e) ∙ at)) in
      subst (λ (r : SightRoots). HasNone best n c.args.budget (sight_of r.sight) r.sizes.items (record { nodes = c.args.load.nodes; sum = c.args.load.sum })) same
      (subst (λ (l : List Sizes). HasNone best n c.args.budget (sight_of x.sight) l (record { nodes = c.args.load.nodes; sum = c.args.load.sum })) c.as_slice-list.ensures.value (c.place_of.ensures.none c.in_default.is))
      )
]

pub returns-in-Some : goal.returns-in-Some
returns-in-Some c =
    let all = c.as_slice-all.result.now in
    let list = c.as_slice-list.result.now in
    let k = c.loop-which.which in
    let x = c.index-all-which.result in
    let i = c.in-Some.place in
    let place = c.in-Some.ensures.some in
    let here = ap (λ (l : List SightRoots). slice_get l k) (sym c.as_slice-all.ensures.value) ∙ slice_get_read all (length all) k x refl c.loop-which-test.true c.index-all-which.is in
    chosen (table_of c.args.rows.now) (length c.args.rows.now + 1) c.args.budget c.args.roots.now (record { nodes = c.args.load.nodes; sum = c.args.load.sum }) k x list i _ here
    c.as_slice-list.ensures.value place (read_at list i place.0 _ place.1 ∙ sym (read_at list i place.0 _ place.1))

pub unreachable-requires : goal.unreachable-requires
unreachable-requires c =
    none_left (table_of c.args.rows.now) (length c.args.rows.now + 1) c.args.budget c.args.roots.now (record { nodes = c.args.load.nodes; sum = c.args.load.sum })
    (λ i r at. c.loop-which.invariant i r (let l = slice_get_within c.args.roots.now.by_sight.items i r at in omega (arith, l, c.loop-which-test.false, ap length c.as_slice-all.ensures.value)) at)
    c.requires.some
