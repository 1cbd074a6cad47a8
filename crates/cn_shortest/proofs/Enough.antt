-- No root is missing from the list: the teams of a witness are those of the finest division, merged.
use Rattle.std.proofs.Common.{ℕ, zero, suc, ◌≡◌, ◌+◌, ◌<◌, ◌≤◌, Bool, true, List, sym, ap, ◌∙◌, subst, arith, nat_lt, Some, slice_get}
use Rattle.std.specs.Prelude.{Contains, IsPermutation, sum}
use Rattle.std.proofs.lemmas.Bool.Decides.{nat_tests}
use Rattle.std.proofs.lemmas.List.Sorted.{IsPermutation-sym}
use Rattle.cn_divisions.specs.Divisions.{AreAllSizes, AreParted, IsFinestOf, IsMeetingOf, first}
use Rattle.cn_meetings.specs.Sights.{sight_of}
use Rattle.cn_divisions.specs.declared.divisions.Division.{Division}
use Rattle.cn_meetings.specs.Division.{IsFinest}
use Rattle.cn_meetings.specs.Meeting.{Meeting, Sight}
use Rattle.cn_meetings.specs.Witness.{IsTeamWitness}
use Rattle.cn_meetings.proofs.Finest.{coarser, finest}
use Rattle.cn_stocks.specs.Each.{EachAt}
use Rattle.cn_table.specs.TypeTable.{TypeTable}
use Rattle.cn_tree_costs.specs.Least.{AreRoots, IsRoot, Root}
use Rattle.cn_tree_costs.specs.Sizes.{HasSizes, IsDivision, block, price}
use Rattle.cn_shortest.specs.Loads.{AreAllOf, all_roots, root_with, roots_at, roots_by, roots_in}
use Rattle.cn_shortest.specs.Roots.{AreSizesOf}
use Rattle.cn_shortest.specs.Sizes.{AreCounts, AreOf, sizes_of}
use Rattle.cn_shortest.specs.declared.roots.Roots.{Roots}
use Rattle.cn_shortest.specs.declared.sizes.Sizes.{Sizes}
use Rattle.cn_shortest.proofs.Coarser.{reached, two_teams}
use Rattle.cn_shortest.proofs.Elements.{all_at, element_at, flat_contains, mapped_at}
use Rattle.cn_shortest.proofs.Merging.{counted_same}
use Rattle.cn_tree_costs.proofs.Numbers.{two_or_more}
use Rattle.cn_shortest.proofs.Sound.{AreRootsOf, roots_sound}

module _ (t : TypeTable) (sight : Sight) (n : ℕ) (divisions : List Division) (list : List Sizes) (sizes : List ℕ) (few : n ≤ 8) (all : AreAllSizes t sight n divisions) (are : AreSizesOf n divisions list)
    (has : HasSizes t sight sizes) (division : IsDivision n sizes) where
  abbrev M : Meeting
  M = has.meeting

  within : (p : ℕ) → p < n → p < sum sizes
  within p l = (let w = division.whole in omega (arith, w, l))

  meeting_is : IsMeetingOf t sight n M
  meeting_is = record {
    start = has.start;
    operations = λ p l. has.operations p (within p l);
    looks = λ p l. has.sights p (within p l);
  }

  witness : IsTeamWitness t M (first n) (block sizes)
  witness = subst (λ i. IsTeamWitness t M (λ p. nat_lt p i) (block sizes)) division.whole has.witness

  -- the finest division, with numbers above those of the teams
  found : (team : ℕ → ℕ) × IsFinest t M (first n) team
  found = finest t M (first n) n (λ p h. grind (arith, nat_tests))

  abbrev f : ℕ → ℕ
  f p = n + found.0 p

  coarse : (p q : ℕ) → f p ≡ f q → block sizes p ≡ block sizes q
  coarse p q e = (coarser t M (first n) found.0 (block sizes) found.1).0 witness p q (omega (arith, e))

  finest_is : IsFinestOf t M n f
  finest_is p q lp lq = (λ e. (found.1 p q).0 (omega (arith, e)), λ h. ap (λ x. n + x) ((found.1 p q).1 h))

  parted : AreParted n f
  parted = (let two = two_teams n sizes division in (two.0, two.1, two.2, two.3, λ e. two.4 (coarse two.0 two.1 e)))

  -- the list has these sizes
  pub listed_sizes : (i : ℕ) × (s : Sizes) × (slice_get list i ≡ Some s) × IsPermutation sizes (sizes_of s.counts)
  listed_sizes =
      let d = all.all M meeting_is f finest_is parted in
      let r = reached n f d.1.sizes.items sizes few division (λ p. omega arith) (λ p q lp lq. coarse p q) d.3 in
      let h = are.all d.0 d.1 r.old r.new d.2 r.counts r.within in
      let of : AreOf n h.1.counts = all_at (λ (s : Sizes). AreOf n s.counts) list h.0 h.1 are.of_n h.2 in
      let counts : AreCounts sizes h.1.counts = record { long = of.long; each = λ x l. h.3 x l ∙ r.new_is x l } in
      (h.0, h.1, h.2, IsPermutation-sym (sizes_of h.1.counts) sizes (counted_same n sizes h.1.counts few counts division))

-- a root of the list with these sizes, that costs no more
abbrev IsListed : List Root → Sight → List ℕ → Type 0
IsListed roots sight sizes = (listed : Root) × Contains roots listed × (price listed.sight ≤ price sight) × IsPermutation sizes listed.sizes

module _ (t : TypeTable) (allow : Sight → Bool) where
  enough_in : (n : ℕ) (r : Roots) → n ≤ 8 → AreRootsOf t allow n r → (sight : Sight) (sizes : List ℕ) → allow sight ≡ true → HasSizes t sight sizes → IsDivision n sizes → IsListed (roots_in r) sight sizes
  enough_in n r few are sight sizes may has division =
      let x = are.all sight may has.known in
      let of_sight = x.1 in
      let k = sight_of of_sight.sight in
      let here = (are.each x.0 of_sight x.2).1 in
      let h = listed_sizes t k n here.divisions of_sight.sizes.items sizes few here.are here.sizes (subst (λ s. HasSizes t s sizes) (sym x.3) has) division in
      let same : price k ≡ price sight = ap price x.3 in (
        root_with k h.1,
        flat_contains roots_by r.by_sight.items x.0 of_sight (root_with k h.1) x.2 (mapped_at (root_with k) of_sight.sizes.items h.0 h.1 h.2),
        omega (arith, same),
        h.3,
      )

  enough_of : (list : List Roots) (count : ℕ) → count ≤ 7 → EachAt (λ i r. AreAllOf (i + 2) r × AreRootsOf t allow (i + 2) r) count list → (n : ℕ) (root : Root) → n ≤ count + 1 → IsRoot t allow n root
      → IsListed (all_roots list n) root.sight root.sizes
  enough_of list count few each zero root l is = absurd (omega (arith, two_or_more 0 root.sizes is.division))
  enough_of list count few each (suc zero) root l is = absurd (omega (arith, two_or_more 1 root.sizes is.division))
  enough_of list count few each (suc (suc m)) root l is =
      let long = each.0 in
      let at = element_at list m (omega (arith, l, long)) in
      let same : m + 2 ≡ suc (suc m) = omega arith in
      let here : AreRootsOf t allow (suc (suc m)) at.0 = subst (λ n. AreRootsOf t allow n at.0) same (each.1 m at.0 at.1).1 in
      subst (λ roots. IsListed roots root.sight root.sizes) (sym (ap roots_at at.1))
      (enough_in (suc (suc m)) at.0 (omega (arith, l, few)) here root.sight root.sizes is.is_allowed is.witness is.division)

  pub roots_enough : (list : List Roots) (count : ℕ) → count ≤ 7 → EachAt (λ i r. AreAllOf (i + 2) r × AreRootsOf t allow (i + 2) r) count list → AreRoots t allow (count + 1) (all_roots list)
  roots_enough list count few each = record { sound = roots_sound t allow list count each; enough = enough_of list count few each }
