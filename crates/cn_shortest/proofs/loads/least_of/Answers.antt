use Rattle.std.proofs.Common.{◌≡◌, ◌+◌, ◌∙◌, arith, ap, sym, inl, inr, length, get_or, slice_get}
use Rattle.std.proofs.lemmas.Option.{none-some, same_Some, slice_get-get_or, slice_get_within}
use Rattle.cn_meetings.specs.Sights.{sight_of}
use Rattle.cn_tree_costs.specs.Least.{Root, load_of_root}
use Rattle.cn_tree_costs.specs.Sizes.{price}
use Rattle.cn_shortest.specs.Loads.{load_of, root_with, table_of}
use Rattle.cn_shortest.specs.declared.sizes.Sizes.{Sizes}
use Rattle.cn_shortest.proofs.Elements.{below_or_last, contains_mapped, mapped_at, no_sizes}
use Rattle.cn_tree_costs.proofs.Loads.{at_most_trans}
use Rattle.cn_shortest.proofs.loads.least_of.Goals as goal

pub returns-then-budget-price : goal.returns-then-budget-price
returns-then-budget-price c = record {
  attained = λ x e. absurd (none-some x e);
  least_is = λ y h.
      let sight = sight_of c.args.sight in
      let m = contains_mapped (root_with sight) c.args.list.now h.0 h.1 in
      let p : price sight ≡ price h.0.sight = ap (λ (r : Root). price r.sight) m.3 in
      let paid = h.2 in
      absurd (omega (arith, p, paid, c.price.ensures, c.if-budget-price.true));
}

pub loop-place-preserved : goal.loop-place-preserved
loop-place-preserved c =
    let list = c.args.list.now in
    let k = c.loop-place.place in
    let sight = sight_of c.args.sight in
    let best = table_of c.args.rows.now in
    let n = length c.args.rows.now + 1 in
    let none : Sizes = no_sizes in
    let s = get_or list k none in
    let here = slice_get-get_or list k none c.loop-place-test.true in
    record {
      attained = λ x e. elim c.less-load.ensures.either [
        | inl same ↦ c.loop-place.invariant.attained x (sym (ap load_of same) ∙ e)
        | inr same ↦ (root_with sight s, mapped_at (root_with sight) list k s here, omega (arith, c.price.ensures, c.if-budget-price.false), sym c.load_of_root.ensures ∙ (sym (ap load_of same) ∙ e))
      ];
      least_is = λ i u y l at e. elim (below_or_last i k l) [
        | inl m ↦ (let old = c.loop-place.invariant.least_is i u y m at e in let new = c.less-load.ensures.first old.0 old.1 in (new.0, new.1, at_most_trans new.0 old.0 y new.2 old.2))
        | inr m ↦ (
            let same : s ≡ u = same_Some s u (sym here ∙ (ap (slice_get list) (sym m) ∙ at)) in
            c.less-load.ensures.second y (c.load_of_root.ensures ∙ (ap (λ (v : Sizes). load_of_root best n c.args.budget (root_with sight v)) same ∙ e))
            )
      ];
    }

pub returns : goal.returns
returns c = record {
  attained = c.loop-place.invariant.attained;
  least_is = λ y h.
      let sight = sight_of c.args.sight in
      let m = contains_mapped (root_with sight) c.args.list.now h.0 h.1 in
      let l = slice_get_within c.args.list.now m.0 m.1 m.2 in
      c.loop-place.invariant.least_is m.0 m.1 y (omega (arith, l, c.loop-place-test.false)) m.2
      (ap (load_of_root (table_of c.args.rows.now) (length c.args.rows.now + 1) c.args.budget) m.3 ∙ h.3);
}
