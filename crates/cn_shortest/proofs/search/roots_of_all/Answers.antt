use Rattle.std.proofs.Common.{◌≡◌, ◌+◌, ◌∙◌, arith, refl, length, subst}
use Rattle.std.proofs.lemmas.Option.{slice_get_read}
use Rattle.cn_divisions.specs.Divisions.{IsDivision}
use Rattle.cn_meetings.specs.Sights.{sight_of}
use Rattle.cn_stocks.specs.Each.{EachAt}
use Rattle.cn_stocks.proofs.EachLemmas.{each_push}
use Rattle.cn_shortest.specs.Loads.{AreAllOf}
use Rattle.cn_shortest.specs.Looks.{allowed}
use Rattle.cn_shortest.proofs.Dividing.{division_found, witness_found}
use Rattle.cn_shortest.proofs.Elements.{all_at}
use Rattle.cn_shortest.proofs.Enough.{roots_enough}
use Rattle.cn_shortest.proofs.Sound.{AreRootsOf, roots_from}
use Rattle.cn_shortest.proofs.search.roots_of_all.Goals as goal

pub find_roots-requires-clause-sizes : goal.find_roots-requires-clause-sizes
find_roots-requires-clause-sizes c j x there i d e =
    let t = c.args.table.now in
    let k = c.loop-place.place in
    let D = c.index-divisions-place.result in
    let at = slice_get_read c.args.divisions.now (length c.args.divisions.now) k D refl c.loop-place-test.true c.index-divisions-place.is in
    let are = (c.requires.divisions.1 k D at).1 j x there in
    let sight = sight_of x.sight in
    let here = all_at (IsDivision t sight (k + 2)) x.list.items i d are.all.are e in
    record { division = division_found t sight (k + 2) d here c.sizes_are_kept.ensures.all_counted; processes = here.processes; members = here.members }

pub loop-place-preserved : goal.loop-place-preserved
loop-place-preserved c =
    let t = c.args.table.now in
    let k = c.loop-place.place in
    let n = k + 2 in
    let D = c.index-divisions-place.result in
    let at = slice_get_read c.args.divisions.now (length c.args.divisions.now) k D refl c.loop-place-test.true c.index-divisions-place.is in
    let laws = c.sizes_are_kept.ensures in
    let witness = c.finest_divisions_are_witnesses.ensures.witness t in
    each_push (λ i x. AreAllOf (i + 2) x × AreRootsOf t (allowed c.args.looks) (i + 2) x) c.loop-place.all.items c.push.new.self.items c.in_ok-here.here k c.in_ok-push.ensures.items c.loop-place.invariant
    (roots_from t c.args.looks c.args.sights.now c.requires.sights n D (c.requires.divisions.1 k D at) c.in_ok-here.here c.in_ok-here.ensures
    (λ sight d of_type all i x e. (let here = all_at (IsDivision t sight n) d.list.items i x all.are e in (witness_found t sight n x here of_type witness (laws.counted t sight) (laws.any_order t sight) (laws.smaller t sight), here))))

pub returns-clause-each : goal.returns-clause-each
returns-clause-each c =
    let end : c.loop-place.place ≡ length c.args.divisions.now = omega (arith, c.loop-place-test.false, c.loop-place.auto.place-end) in
    (c.loop-place.invariant.0 ∙ end, λ i r e. (c.loop-place.invariant.1 i r e).0)

pub returns-clause-are : goal.returns-clause-are
returns-clause-are c =
    let end : c.loop-place.place ≡ length c.args.divisions.now = omega (arith, c.loop-place-test.false, c.loop-place.auto.place-end) in
    roots_enough c.args.table.now (allowed c.args.looks) c.loop-place.all.items (length c.args.divisions.now) (let few = c.requires.few in omega (arith, few))
    (subst (λ k. EachAt (λ i x. AreAllOf (i + 2) x × AreRootsOf c.args.table.now (allowed c.args.looks) (i + 2) x) k c.loop-place.all.items) end c.loop-place.invariant)

pub returns-clause-examples : goal.returns-clause-examples
returns-clause-examples c i j r x e at = (let h = (c.loop-place.invariant.1 i r e).1.each j x at in record { is_allowed = h.0; found = h.1.found })
