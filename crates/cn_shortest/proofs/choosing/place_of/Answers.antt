use Rattle.std.proofs.Common.{◌≡◌, ◌+◌, ◌∙◌, arith, ap, sym, inl, inr, length, get_or, slice_get, true≢false}
use Rattle.std.proofs.lemmas.Option.{same_Some, slice_get-get_or, slice_get_within}
use Rattle.cn_tree_costs.specs.Least.{load_of_root}
use Rattle.cn_shortest.specs.Loads.{root_with, table_of}
use Rattle.cn_meetings.specs.Sights.{sight_of}
use Rattle.cn_shortest.specs.declared.sizes.Sizes.{Sizes}
use Rattle.cn_shortest.proofs.Elements.{below_or_last, no_sizes}
use Rattle.cn_shortest.proofs.choosing.place_of.Goals as goal

pub loop-place-preserved : goal.loop-place-preserved
loop-place-preserved c i u l at has = elim (below_or_last i c.loop-place.place l) [
  | inl m ↦ c.loop-place.invariant i u m at has
  | inr m ↦ (
      let list = c.args.list.now in
      let k = c.loop-place.place in
      let none : Sizes = no_sizes in
      let s = get_or list k none in
      let here = slice_get-get_or list k none c.loop-place-test.true in
      let same : s ≡ u = same_Some s u (sym here ∙ (ap (slice_get list) (sym m) ∙ at)) in
      let load = c.load_of_root.ensures ∙ (ap (λ (v : Sizes). load_of_root (table_of c.args.rows.now) (length c.args.rows.now + 1) c.args.budget (root_with (sight_of c.args.sight) v)) same ∙ has.1) in
      absurd (true≢false (sym (c.is_load.ensures.1 load) ∙ c.if-is_load.false))
      )
]

pub returns-clause-none : goal.returns-clause-none
returns-clause-none c none i s at has =
    let l = slice_get_within c.args.list.now i s at in
    c.loop-place.invariant i s (omega (arith, l, c.loop-place-test.false)) at has
