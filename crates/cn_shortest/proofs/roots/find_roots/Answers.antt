use Rattle.std.proofs.Common.{ℕ, List, ◌≡◌, ◌∙◌, ap, arith, length, refl, subst, sym, Some, slice_get}
use Rattle.std.proofs.lemmas.Option.{same_Some, slice_get_read}
use Rattle.cn_divisions.specs.declared.search.SightDivisions.{SightDivisions}
use Rattle.cn_stocks.specs.Each.{EachAt}
use Rattle.cn_stocks.proofs.EachLemmas.{each_none, each_push}
use Rattle.cn_shortest.specs.Roots.{AreRootsBy}
use Rattle.cn_shortest.specs.declared.roots.SightRoots.{SightRoots}
use Rattle.cn_shortest.proofs.roots.find_roots.Goals as goal

abbrev Fits : ℕ → List SightDivisions → ℕ → SightRoots → Type 0
Fits n list i r = (d : SightDivisions) → slice_get list i ≡ Some d → AreRootsBy n d r

pub roots_of_sight-requires-clause-sizes : goal.roots_of_sight-requires-clause-sizes
roots_of_sight-requires-clause-sizes c =
    let from = c.as_slice-from.result.now in
    let k = c.loop-place.place in
    let d = c.index-from-place.result in
    c.requires.sizes k d (ap (λ (l : List SightDivisions). slice_get l k) (sym c.as_slice-from.ensures.value) ∙ slice_get_read from (length from) k d refl c.loop-place-test.true c.index-from-place.is)

pub loop-place-init : goal.loop-place-init
loop-place-init c = each_none (Fits c.args.n c.args.divisions.now.by_sight.items) c.in_ok-by_sight.by_sight.items c.in_ok-by_sight.ensures.items

pub loop-place-preserved : goal.loop-place-preserved
loop-place-preserved c =
    let from = c.as_slice-from.result.now in
    let k = c.loop-place.place in
    let x = c.index-from-place.result in
    let at = ap (λ (l : List SightDivisions). slice_get l k) (sym c.as_slice-from.ensures.value) ∙ slice_get_read from (length from) k x refl c.loop-place-test.true c.index-from-place.is in
    each_push (Fits c.args.n c.args.divisions.now.by_sight.items) c.loop-place.by_sight.items c.push.new.self.items c.in_ok-here.here k c.in_ok-push.ensures.items c.loop-place.invariant
    (λ d e. subst (λ (y : SightDivisions). AreRootsBy c.args.n y c.in_ok-here.here) (same_Some _ _ (sym at ∙ e)) c.in_ok-here.ensures)

pub returns : goal.returns
returns c =
    let list = c.args.divisions.now.by_sight.items in
    let end : c.loop-place.place ≡ length list = omega (arith, c.loop-place-test.false, c.loop-place.auto.place-end, ap length c.as_slice-from.ensures.value) in
    subst (λ (k : ℕ). EachAt (Fits c.args.n list) k c.loop-place.by_sight.items) end c.loop-place.invariant
