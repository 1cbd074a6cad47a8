-- The roots of a list are those of witnesses.
use Rattle.std.proofs.Common.{ℕ, zero, suc, ◌≡◌, ◌+◌, ◌<◌, Bool, true, List, length, ap, ◌∙◌, refl, subst, sym, arith, Option, Some, None}
use Rattle.std.specs.Prelude.{Contains, slice_get}
use Rattle.std.proofs.lemmas.Option.{same_Some, slice_get_within}
use Rattle.cn_divisions.specs.Divisions.{AreAllSizes, AreDivisions, AreOfSight}
use Rattle.cn_meetings.specs.Sights.{sight_of}
use Rattle.cn_divisions.specs.declared.divisions.Division.{Division}
use Rattle.cn_divisions.specs.declared.search.Divisions.{Divisions}
use Rattle.cn_divisions.specs.declared.search.SightDivisions.{SightDivisions}
use Rattle.cn_meetings.specs.declared.sight.Sight as sights
use Rattle.cn_meetings.specs.Meeting.{IsSightOf, Sight}
use Rattle.cn_stocks.specs.Each.{EachAt}
use Rattle.cn_table.specs.TypeTable.{TypeTable}
use Rattle.cn_tree_costs.specs.Least.{IsRoot, Root}
use Rattle.cn_shortest.specs.Loads.{AreAllOf, all_roots, root_with, roots_at, roots_by, roots_in}
use Rattle.cn_shortest.specs.Looks.{AreSights, allowed}
use Rattle.cn_shortest.specs.Roots.{AreFound, AreRootsBy, AreRootsFrom, AreSizesOf, AreWitnesses, IsFound}
use Rattle.cn_shortest.specs.declared.looks.Looks.{Looks}
use Rattle.cn_shortest.specs.declared.roots.Roots.{Roots}
use Rattle.cn_shortest.specs.declared.roots.SightRoots.{SightRoots}
use Rattle.cn_shortest.specs.declared.sizes.Sizes.{Sizes}
use Rattle.cn_shortest.proofs.Elements.{all_at, contains_flat, contains_mapped, element_at}

-- the sizes of all divisions of n processes by one sight, each that of a witness
pub record AreRootsOfSight (t : TypeTable) (n : ℕ) (sight : Sight) (list : List Sizes) : Type 0 where
  pub divisions : List Division
  pub are : AreAllSizes t sight n divisions
  pub sizes : AreSizesOf n divisions list
  pub found : AreFound t sight n list

-- by each of the allowed sights
pub record AreRootsOf (t : TypeTable) (allow : Sight → Bool) (n : ℕ) (roots : Roots) : Type 0 where
  pub each : (i : ℕ) (r : SightRoots) → slice_get roots.by_sight.items i ≡ Some r → (allow (sight_of r.sight) ≡ true) × AreRootsOfSight t n (sight_of r.sight) r.sizes.items
  pub all : (sight : Sight) → allow sight ≡ true → IsSightOf t sight → (i : ℕ) × (r : SightRoots) × (slice_get roots.by_sight.items i ≡ Some r) × (sight_of r.sight ≡ sight)

-- ---- the roots of all divisions
module _ (t : TypeTable) (looks : Looks) (list : List sights.Sight) (known : AreSights t looks list) (n : ℕ) (D : Divisions) (are : AreDivisions t list n D) (r : Roots) (from : AreRootsFrom n D r)
    (witnesses : (sight : Sight) (d : SightDivisions) → IsSightOf t sight → AreAllSizes t sight n d.list.items → AreWitnesses t sight n d.list.items) where
  -- the divisions at the place of the roots
  beside : (i : ℕ) (x : SightRoots) → slice_get r.by_sight.items i ≡ Some x → (d : SightDivisions) × AreOfSight t list n i d × AreRootsBy n d x
  beside i x at =
      let l = slice_get_within r.by_sight.items i x at in
      let d = element_at D.by_sight.items i (omega (arith, l, from.0)) in
      (d.0, are.1 i d.0 d.1, from.1 i x at d.0 d.1)

  each_from : (i : ℕ) (x : SightRoots) → slice_get r.by_sight.items i ≡ Some x → (allowed looks (sight_of x.sight) ≡ true) × AreRootsOfSight t n (sight_of x.sight) x.sizes.items
  each_from i x at =
      let b = beside i x at in
      let d = b.0 in
      let is = b.1 in
      let by = b.2 in
      let may = all_at (λ s. allowed looks (sight_of s) ≡ true) list i d.sight known.are_allowed is.sight_is in
      let of_type = all_at (λ s. IsSightOf t (sight_of s)) list i d.sight known.of_type is.sight_is in
      let there : AreRootsOfSight t n (sight_of d.sight) x.sizes.items =
      record { divisions = d.list.items; are = is.all; sizes = by.sizes; found = by.sizes.found t (sight_of d.sight) (witnesses (sight_of d.sight) d of_type is.all) } in (
        subst (λ s. allowed looks (sight_of s) ≡ true) (sym by.sight_is) may,
        subst (λ s. AreRootsOfSight t n (sight_of s) x.sizes.items) (sym by.sight_is) there,
      )

  all_from : (sight : Sight) → allowed looks sight ≡ true → IsSightOf t sight → (i : ℕ) × (x : SightRoots) × (slice_get r.by_sight.items i ≡ Some x) × (sight_of x.sight ≡ sight)
  all_from sight may of_type =
      let s = known.all sight may of_type in
      let l = slice_get_within list s.0 s.1 s.2 in
      let x = element_at r.by_sight.items s.0 (omega (arith, l, from.0, are.0)) in
      let b = beside s.0 x.0 x.1 in
      let same : b.0.sight ≡ s.1 = same_Some _ _ (sym b.1.sight_is ∙ s.2) in
      (s.0, x.0, x.1, ap sight_of (b.2.sight_is ∙ same) ∙ s.3)

  pub roots_from : AreAllOf n r × AreRootsOf t (allowed looks) n r
  roots_from = (λ i x at. (each_from i x at).1.sizes.of_n, record { each = each_from; all = all_from })

-- ---- they are sound
module _ (t : TypeTable) (allow : Sight → Bool) where
  sound_in : (n : ℕ) (r : Roots) (root : Root) → AreRootsOf t allow n r → Contains (roots_in r) root → IsRoot t allow n root
  sound_in n r root are h =
      let f = contains_flat roots_by r.by_sight.items root h in
      let x = f.1 in
      let here = are.each f.0 x f.2 in
      let m = contains_mapped (root_with (sight_of x.sight)) x.sizes.items root f.3 in
      let found = all_at (IsFound t (sight_of x.sight) n) x.sizes.items m.0 m.1 here.1.found m.2 in
      subst (IsRoot t allow n) m.3 (record { is_allowed = here.0; witness = found.has; division = found.of_n.division })

  pub roots_sound : (list : List Roots) (count : ℕ) → EachAt (λ i r. AreAllOf (i + 2) r × AreRootsOf t allow (i + 2) r) count list → (m : ℕ) (root : Root) → Contains (all_roots list m) root → IsRoot t allow m root
  roots_sound list count each zero root h = let l = h.1 in absurd (omega (arith, l))
  roots_sound list count each (suc zero) root h = let l = h.1 in absurd (omega (arith, l))
  roots_sound list count each (suc (suc m)) root h = go (slice_get list m) refl h
    where
      go : (o : Option Roots) → slice_get list m ≡ o → Contains (roots_at o) root → IsRoot t allow (suc (suc m)) root
      go None e i = let l = i.1 in absurd (omega (arith, l))
      go (Some r) e i = let same : m + 2 ≡ suc (suc m) = omega arith in subst (λ n. IsRoot t allow n root) same (sound_in (m + 2) r root (each.1 m r e).1 i)
