-- Some root has the least load, and one that has it is chosen.
use Rattle.std.proofs.Common.{ℕ, ◌≡◌, ◌<◌, ◌≤◌, ◌∙◌, List, ap, get_or, length, refl, sym, subst, Some}
use Rattle.std.specs.Prelude.{slice_get}
use Rattle.cn_meetings.specs.Sights.{sight_of}
use Rattle.cn_tree_costs.specs.Least.{Load, LoadTable, Root, load_of_root}
use Rattle.cn_tree_costs.specs.Sizes.{price}
use Rattle.cn_shortest.specs.Choosing.{HasLoad, HasNone, IsChoice, IsPlace}
use Rattle.cn_shortest.specs.Loads.{IsLoadOf, root_with, roots_by, roots_in}
use Rattle.cn_shortest.specs.declared.roots.Roots.{Roots}
use Rattle.cn_shortest.specs.declared.roots.SightRoots.{SightRoots}
use Rattle.cn_shortest.specs.declared.sizes.Sizes.{Sizes}
use Rattle.cn_shortest.proofs.Elements.{contains_flat, contains_mapped, read_at}

module _ (best : LoadTable) (n b : ℕ) (roots : Roots) (x : Load) where
  -- none of the first lists has a root with the load
  abbrev pub NoneSoFar : ℕ → Type 0
  NoneSoFar k = (i : ℕ) (r : SightRoots) → i < k → slice_get roots.by_sight.items i ≡ Some r → HasNone best n b (sight_of r.sight) r.sizes.items x

  pub none_left : ((i : ℕ) (r : SightRoots) → slice_get roots.by_sight.items i ≡ Some r → HasNone best n b (sight_of r.sight) r.sizes.items x) → IsLoadOf best n b (roots_in roots) x → ⊥
  none_left none h =
      let f = contains_flat roots_by roots.by_sight.items h.0 h.1 in
      let r = f.1 in
      let m = contains_mapped (root_with (sight_of r.sight)) r.sizes.items h.0 f.3 in
      none f.0 r f.2 m.0 m.1 m.2 (subst (λ (y : Root). price y.sight ≤ b) (sym m.3) h.2, subst (λ (y : Root). load_of_root best n b y ≡ Some x) (sym m.3) h.3)

  -- the sizes at the place
  pub chosen : (which : ℕ) (r : SightRoots) (list : List Sizes) (i : ℕ) (s : Sizes) → slice_get roots.by_sight.items which ≡ Some r → list ≡ r.sizes.items → IsPlace best n b (sight_of r.sight) list x i → s ≡ get_or list i s
      → IsChoice best n b roots x (record { sight = r.sight; sizes = s })
  chosen which r list i s at is place here =
      let same : s ≡ place.0 = here ∙ read_at list i place.0 s place.1 in
      record {
        has = subst (λ (v : Sizes). HasLoad best n b (sight_of r.sight) v x) (sym same) place.2;
        which = which;
        of_sight = r;
        is_there = at;
        sight_is = refl;
        place = i;
        is_at = ap (λ (l : List Sizes). slice_get l i) (sym is) ∙ (place.1 ∙ ap Some (sym same));
      }
