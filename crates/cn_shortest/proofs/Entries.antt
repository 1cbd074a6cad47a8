-- The least load of the roots by several sights.
use Rattle.std.proofs.Common.{ℕ, ◌≡◌, ◌+◌, ◌<◌, ◌≤◌, inl, inr, List, length, sym, ap, ◌∙◌, subst, arith, Option, Some, None}
use Rattle.std.specs.Prelude.{slice_get}
use Rattle.std.proofs.lemmas.Option.{none-some, same_Some, slice_get_within}
use Rattle.cn_tree_costs.specs.Least as least
use Rattle.cn_tree_costs.specs.Least.{LoadTable}
use Rattle.cn_shortest.specs.Loads.{IsEntry, IsLeastOf, IsLessOf, IsLoadOf, load_of, roots_by, roots_in}
use Rattle.cn_shortest.specs.declared.loads.Load.{Load}
use Rattle.cn_shortest.specs.declared.roots.Roots.{Roots}
use Rattle.cn_shortest.specs.declared.roots.SightRoots.{SightRoots}
use Rattle.cn_shortest.proofs.Elements.{below_or_last, contains_flat, flat_contains}
use Rattle.cn_tree_costs.proofs.Loads.{at_most_trans}

module _ (best : LoadTable) (n b : ℕ) (roots : Roots) where
  -- the load is that of a root, and none of the first lists has less
  pub record EntryTo (k : ℕ) (load : Option Load) : Type 0 where
    pub attained : (x : least.Load) → load_of load ≡ Some x → IsLoadOf best n b (roots_in roots) x
    pub least_is : (i : ℕ) (r : SightRoots) → i < k → slice_get roots.by_sight.items i ≡ Some r → IsLeastOf best n b (roots_by r) load

  pub entry_none : EntryTo 0 None
  entry_none = record { attained = λ x e. absurd (none-some x e); least_is = λ i r l at y h. absurd (omega (arith, l)) }

  pub entry_on : (k : ℕ) (r : SightRoots) (old own new : Option Load) → slice_get roots.by_sight.items k ≡ Some r → EntryTo k old → IsEntry best n b (roots_by r) own → IsLessOf old own new → EntryTo (k + 1) new
  entry_on k r old own new at so its less = record {
    attained = λ x e. elim less.either [
      | inl same ↦ so.attained x (sym (ap load_of same) ∙ e)
      | inr same ↦ (let h = its.attained x (sym (ap load_of same) ∙ e) in (h.0, flat_contains roots_by roots.by_sight.items k r h.0 at h.1, h.2, h.3))
    ];
    least_is = λ i q l there y h. elim (below_or_last i k l) [
      | inl m ↦ (let o = so.least_is i q m there y h in let p = less.first o.0 o.1 in (p.0, p.1, at_most_trans p.0 o.0 y p.2 o.2))
      | inr e ↦ (
          let same : q ≡ r = same_Some _ _ (sym there ∙ (ap (slice_get roots.by_sight.items) e ∙ at)) in
          let o = its.least_is y (subst (λ z. IsLoadOf best n b (roots_by z) y) same h) in
          let p = less.second o.0 o.1 in
          (p.0, p.1, at_most_trans p.0 o.0 y p.2 o.2)
          )
    ];
  }

  pub entry_all : (k : ℕ) (load : Option Load) → length roots.by_sight.items ≤ k → EntryTo k load → IsEntry best n b (roots_in roots) load
  entry_all k load all so = record {
    attained = so.attained;
    least_is = λ y h.
        let f = contains_flat roots_by roots.by_sight.items h.0 h.1 in
        so.least_is f.0 f.1 (let l = slice_get_within roots.by_sight.items f.0 f.1 f.2 in omega (arith, l, all)) f.2 y (h.0, f.3, h.2, h.3);
  }
