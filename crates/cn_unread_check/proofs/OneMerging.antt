-- The states of a type merge to one type alone.
use Rattle.std.proofs.Common.{◌≡◌, ℕ, ◌<◌, List, [], ◌∷◌, length, refl, sym, ap, ◌∙◌, arith, inl, inr}
use Rattle.std.specs.List.{AllByRecursion}
use Rattle.std.specs.Prelude.{slice_index, slice_index_or}
use Rattle.std.proofs.lemmas.Bool.{cases_order}
use Rattle.std.proofs.lemmas.Grind.{same_number_lists}
use Rattle.std.proofs.lemmas.List.{length-map}
use Rattle.cn_table.specs.FewerStates.{with_states}
use Rattle.cn_table.specs.TypeTable.{IsTypeTable, TypeTable}
use Rattle.cn_merging.proofs.Merging.{same_run}
use Rattle.cn_merging.specs.Alike.{AreAlike, AreToldApart}
use Rattle.cn_merging.specs.Merged.{IsWhollyMerged, class_in}
use Rattle.cn_unread_cert.specs.Right.{IsMerging}
use Rattle.cn_unread_check.proofs.Ascending.{AreMembers, same_ascending}

module _ (t u : TypeTable) (table : IsTypeTable t) (classes : List ℕ) (whole : IsWhollyMerged t u classes) where
  operations_back : (os : List ℕ) → AllByRecursion (λ o. o < length u.operations) os → AllByRecursion (λ o. o < length t.operations) os
  operations_back [] known = tt
  operations_back (o ∷ os) known = (omega (arith, known.0, whole.merged.merges.same_operations), operations_back os known.1)

  -- operations do not tell the classes of alike states apart
  not_apart : (p q : ℕ) → p < length t.states → q < length t.states → AreAlike t p q
      → ¬ AreToldApart u (slice_index classes p) (slice_index classes q)
  not_apart p q l m alike = λ apart.
      let known = operations_back apart.0 apart.1 in
      apart.2 (same_run (class_in classes) t u table whole.merged.merges apart.0 p l known
      ∙ (alike apart.0 known ∙ sym (same_run (class_in classes) t u table whole.merged.merges apart.0 q m known)))

  -- alike states are of one class
  pub one_class : (p q : ℕ) → p < length t.states → q < length t.states → AreAlike t p q → slice_index classes p ≡ slice_index classes q
  one_class p q l m alike =
      let lp = whole.merged.merges.known p l in
      let lq = whole.merged.merges.known q m in
      elim (cases_order (slice_index classes p) (slice_index classes q)) [
        | inl e ↦ e
        | inr h ↦ elim h [
          | inl less ↦ absurd (not_apart p q l m alike (whole.apart _ _ lp lq (λ e. absurd (omega (arith, e, less)))))
          | inr more ↦ absurd (not_apart p q l m alike (whole.apart _ _ lp lq (λ e. absurd (omega (arith, e, more)))))
        ]
      ]

  abbrev kept_of : List ℕ
  kept_of = whole.kept.0

  -- each class has a first state
  pub class_known : (q : ℕ) → q < length t.states → slice_index classes q < length kept_of
  class_known q l =
      omega (arith, whole.merged.merges.known q l, ap (λ (x : TypeTable). length x.states) whole.kept.2, length-map kept_of (λ k. slice_index_or t.states k []))

  -- the first state of its class is one of those that are kept
  pub first_is_kept : (q : ℕ) → q < length t.states → ((p : ℕ) → p < q → ¬ AreAlike t p q)
      → (j : ℕ) × (j < length kept_of) × (slice_index kept_of j ≡ q)
  first_is_kept q l none =
      let s : ℕ = slice_index classes q in
      let m : s < length kept_of = class_known q l in
      let k : ℕ = slice_index kept_of s in
      let there : k < length t.states = whole.kept.1.known s m in (
        s,
        m,
        elim (cases_order k q) [
          | inl e ↦ e
          | inr h ↦ elim h [
            | inl less ↦ absurd (none k less (whole.alike k q there l (whole.kept.1.own s m)))
            | inr more ↦ absurd (whole.kept.1.first q s l m refl more)
          ]
        ],
      )

  -- no lesser state is like one that is kept
  pub kept_is_first : (s : ℕ) → s < length kept_of → (p : ℕ) → p < slice_index kept_of s → ¬ AreAlike t p (slice_index kept_of s)
  kept_is_first s m p less = λ alike.
      let there : slice_index kept_of s < length t.states = whole.kept.1.known s m in
      let l : p < length t.states = omega (arith, less, there) in
      whole.kept.1.first p s l m (one_class p (slice_index kept_of s) l there alike ∙ whole.kept.1.own s m) less

module _ (t u v : TypeTable) (table : IsTypeTable t) (classes others : List ℕ) (one : IsWhollyMerged t u classes) (two : IsWhollyMerged t v others) where
  kept_in : AreMembers one.kept.0 two.kept.0
  kept_in i l = first_is_kept t v table others two (slice_index one.kept.0 i) (one.kept.1.known i l)
      (kept_is_first t u table classes one i l)

module _ (t u v : TypeTable) (table : IsTypeTable t) (classes others : List ℕ) (one : IsWhollyMerged t u classes) (two : IsWhollyMerged t v others) where
  same_kept : one.kept.0 ≡ two.kept.0
  same_kept = same_ascending one.kept.0 two.kept.0 one.kept.1.ascending two.kept.1.ascending
      (kept_in t u v table classes others one two) (kept_in t v u table others classes two one)

  same_class : (q : ℕ) → q < length t.states → slice_index classes q ≡ slice_index others q
  same_class q l =
      let s : ℕ = slice_index others q in
      let m : s < length two.kept.0 = class_known t v table others two q l in
      let n : s < length one.kept.0 = omega (arith, m, ap length same_kept) in
      let k : ℕ = slice_index two.kept.0 s in
      let there : k < length t.states = two.kept.1.known s m in
      let alike : AreAlike t k q = two.alike k q there l (two.kept.1.own s m) in
      sym (one_class t u table classes one k q there l alike)
      ∙ (ap (λ (xs : List ℕ). slice_index classes (slice_index xs s)) (sym same_kept) ∙ one.kept.1.own s n)

  same_classes : classes ≡ others
  same_classes = same_number_lists classes others (one.each ∙ sym two.each) (λ k l. same_class k (omega (arith, l, one.each)))

  pub same_merged : u ≡ v
  same_merged = one.kept.2 ∙ (ap (λ (xs : List ℕ). with_states t xs classes) same_kept
      ∙ (ap (λ (xs : List ℕ). with_states t two.kept.0 xs) same_classes ∙ sym two.kept.2))

pub one_merging : (t u v : TypeTable) → IsTypeTable t → IsMerging t u → IsMerging t v → u ≡ v
one_merging t u v table one two = same_merged t u v table one.1.0 two.1.0 one.1.1 two.1.1
