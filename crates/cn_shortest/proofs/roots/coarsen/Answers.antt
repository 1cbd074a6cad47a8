use Rattle.std.proofs.Common.{◌≡◌, ◌∙◌, arith, inl, inr, refl, sym, subst, ap, ◌+◌, length, length-append, slice_get, Some}
use Rattle.std.proofs.lemmas.Option.{same_Some, slice_get_read, slice_get_within}
use Rattle.cn_shortest.specs.Roots.{HasAllMerged, IsFound}
use Rattle.cn_shortest.specs.declared.sizes.Sizes.{Sizes}
use Rattle.cn_shortest.proofs.Elements.{all_at, below_or_last}
use Rattle.cn_shortest.proofs.Merging.{at_extended, extended_on, has_extended}
use Rattle.cn_shortest.proofs.roots.coarsen.Goals as goal

pub loop-place-preserved : goal.loop-place-preserved
loop-place-preserved c =
    let i = c.loop-place.invariant in
    let e = c.in_ok-add_merged.ensures in
    let first = c.args.list.now.items in
    let old = c.loop-place.list.items in
    let new = c.add_merged.new.list.items in
    let k = c.loop-place.place in
    let n = c.args.n in
    let s = c.index.result.now in
    let grown : length old ≡ length first + length i.kept.0 = ap length i.kept.1 ∙ length-append first i.kept.0 in
    let here : slice_get old k ≡ Some s = slice_get_read old (length old) k s refl (omega (arith, grown, c.loop-place-test.true, c.len-place-end.ensures)) c.index.ensures in
    record {
      kept = extended_on first old new i.kept e.kept;
      of_n = e.of_n;
      found = λ t sight h. (let so = i.found t sight h in e.found t sight (all_at (IsFound t sight n) old k s so here) so);
      all = λ j u l at. elim (below_or_last j k l) [
        | inl m ↦ (λ a b counts la lb both lt are. has_extended old new counts e.kept (i.all j u m at a b counts la lb both lt are))
        | inr m ↦ (
            let same : s ≡ u = same_Some s u (sym here ∙ (ap (slice_get old) (sym m) ∙ at_extended first old j u i.kept at)) in
            subst (λ (x : Sizes). HasAllMerged n x.counts new) same e.all
            )
      ];
    }

pub returns-clause-all : goal.returns-clause-all
returns-clause-all c i s at = c.loop-place.invariant.all i s (let l = slice_get_within c.args.list.now.items i s at in omega (arith, l, c.loop-place-test.false, c.len-place-end.ensures)) at
