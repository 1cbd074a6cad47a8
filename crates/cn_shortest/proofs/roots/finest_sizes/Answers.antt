use Rattle.std.proofs.Common.{◌≡◌, ◌∙◌, arith, inl, inr, refl, sym, subst, ap, length, slice_get}
use Rattle.std.proofs.lemmas.List.Sorted.{IsPermutation-sym}
use Rattle.std.proofs.lemmas.Option.{same_Some, slice_get_read, slice_get_within}
use Rattle.cn_divisions.specs.declared.divisions.Division.{Division}
use Rattle.cn_shortest.specs.Roots.{IsFound}
use Rattle.cn_shortest.specs.Sizes.{AreCounts, AreOf, sizes_of}
use Rattle.cn_shortest.proofs.Elements.{below_or_last}
use Rattle.cn_shortest.proofs.Merging.{all_added, counted_of, counted_same, extended_added, has_extended, same_has}
use Rattle.cn_shortest.proofs.roots.finest_sizes.Goals as goal

pub sizes_of_division-requires-clause-division : goal.sizes_of_division-requires-clause-division
sizes_of_division-requires-clause-division c =
    let all = c.args.divisions.now in
    let d = c.index-divisions-place.result in
    c.requires.divisions c.loop-place.place d (slice_get_read all (length all) c.loop-place.place d refl c.loop-place-test.true c.index-divisions-place.is)

pub loop-place-preserved : goal.loop-place-preserved
loop-place-preserved c =
    let i = c.loop-place.invariant in
    let all = c.args.divisions.now in
    let n = c.args.n in
    let k = c.loop-place.place in
    let d = c.index-divisions-place.result in
    let at = slice_get_read all (length all) k d refl c.loop-place-test.true c.index-divisions-place.is in
    let s = c.sizes_of_division.result in
    let counted = c.sizes_of_division.ensures.counts in
    let division = (c.requires.divisions k d at).division in
    let here = counted_of n d.sizes.items s.counts c.requires.n counted division in
    let old = c.loop-place.list.items in
    let new = c.add.new.list.items in
    let added = c.in_ok-add.ensures.added in
    record {
      of_n = all_added (λ x. AreOf n x.counts) old new s added i.of_n here;
      found = λ t sight h. all_added (IsFound t sight n) old new s added (i.found t sight h) (record {
        of_n = here;
        has = c.sizes_are_kept.ensures.any_order t sight d.sizes.items (sizes_of s.counts) (IsPermutation-sym (sizes_of s.counts) d.sizes.items (counted_same n d.sizes.items s.counts c.requires.n counted division)) (h k d at).0;
        example = c.sizes_of_division.ensures.example t sight (h k d at).1;
      });
      all = λ j e from l there are. elim (below_or_last j k l) [
        | inl m ↦ has_extended old new from (extended_added old new s added) (i.all j e from m there are)
        | inr m ↦ (
            let same : d ≡ e = same_Some d e (sym at ∙ (ap (slice_get all) (sym m) ∙ there)) in
            let its : AreCounts d.sizes.items from = subst (λ (x : Division). AreCounts x.sizes.items from) (sym same) are in
            same_has new s.counts from (λ x u. counted.each x u ∙ sym (its.each x u)) c.in_ok-add.ensures.has
            )
      ];
    }

pub returns-clause-all : goal.returns-clause-all
returns-clause-all c i d old new at are same =
    same_has c.loop-place.list.items old new same (c.loop-place.invariant.all i d old (let l = slice_get_within c.args.divisions.now i d at in omega (arith, l, c.loop-place-test.false)) at are)
