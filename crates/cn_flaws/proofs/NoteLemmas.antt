-- Numbers with a property, in ascending order, and operations that change nothing.
use Rattle.std.proofs.Common.{◌≡◌, ℕ, zero, suc, ◌+◌, ◌<◌, inl, inr, List, [], ◌∷◌, ◌++◌, length, get_or, true, refl, sym, subst, arith, Contains}
use Rattle.std.specs.Prelude.{◌==◌, slice_index, slice_index_or}
use Rattle.std.proofs.Math.Nat.{eq-or-lt_of_le}
use Rattle.std.proofs.lemmas.Bool.{and_from, and_parts, eq-eqb, eqb-true}
use Rattle.std.proofs.lemmas.List.Elements.{Contains-append_left, Contains-get_or, Contains-push, Contains-push_cases}
use Rattle.std.proofs.lemmas.List.Quantifiers.{all_pairs_push}
use Rattle.cn_table.specs.Reach.{changes_nothing, is_in_place}
use Rattle.cn_table.specs.TypeTable.{TypeTable, IsTypeTable, IsRow, no_row}
use Rattle.cn_table.proofs.Rows.{all_at}
use Rattle.cn_flaws.specs.Notes.{AreThose, IsIdle}

-- the list has those of the first n numbers
abbrev pub AreThoseBelow : (ℕ → Type 0) → ℕ → List ℕ → Type 0
AreThoseBelow Has n list = AreThose (λ k. (k < n) × Has k) list

pub those_of_none : (Has : ℕ → Type 0) → AreThoseBelow Has 0 []
those_of_none Has = record { each = λ k. (λ c. absurd (omega (arith, c.1)), λ h. absurd (omega (arith, h.0))); ascending = λ i j d l u. absurd (omega (arith, u)) }

pub those_skipped : (Has : ℕ → Type 0) (n : ℕ) (list : List ℕ) → (Has n → ⊥) → AreThoseBelow Has n list → AreThoseBelow Has (n + 1) list
those_skipped Has n list hasnt f = record {
  each = λ k. (
    λ c. let r = (f.each k).0 c in (omega (arith, r.0), r.1),
    λ h. elim (eq-or-lt_of_le (omega (arith, h.0))) [ inl e ↦ absurd (hasnt (subst Has e h.1)) | inr u ↦ (f.each k).1 (u, h.1) ],
  );
  ascending = f.ascending;
}

pub those_added : (Has : ℕ → Type 0) (n : ℕ) (list : List ℕ) → Has n → AreThoseBelow Has n list → AreThoseBelow Has (n + 1) (list ++ n ∷ [])
those_added Has n list has f = record {
  each = λ k. (
    λ c. elim (Contains-push_cases list n k c) [
      | inl l ↦ (let r = (f.each k).0 l in (omega (arith, r.0), r.1))
      | inr e ↦ (omega (arith, e), subst Has e has)
    ],
    λ h. elim (eq-or-lt_of_le (omega (arith, h.0))) [
      | inl e ↦ subst (Contains (list ++ n ∷ [])) (sym e) (Contains-push list n)
      | inr u ↦ Contains-append_left list (n ∷ []) k ((f.each k).1 (u, h.1))
    ],
  );
  ascending = all_pairs_push (λ x y. x < y) list n f.ascending (λ k d within. ((f.each (get_or list k d)).0 (Contains-get_or list k d within)).0);
}

-- ---- operations that change nothing

in_place : (i : ℕ) (qs : List ℕ) → is_in_place i qs ≡ true → (k : ℕ) → k < length qs → slice_index qs k ≡ i + k
in_place i [] h k within = absurd (omega (arith, within))
in_place i (q ∷ qs) h zero within = let here = eqb-true q i (and_parts (q == i) (is_in_place (i + 1) qs) h).0 in omega (arith, here)
in_place i (q ∷ qs) h (suc k) within =
    let rest = in_place (i + 1) qs (and_parts (q == i) (is_in_place (i + 1) qs) h).1 k (omega (arith, within)) in omega (arith, rest)

from_places : (i : ℕ) (qs : List ℕ) → ((k : ℕ) → k < length qs → slice_index qs k ≡ i + k) → is_in_place i qs ≡ true
from_places i [] h = refl
from_places i (q ∷ qs) h =
    and_from (q == i) (is_in_place (i + 1) qs) (eq-eqb q i (let here = h 0 (omega arith) in omega (arith, here)))
    (from_places (i + 1) qs (λ k within. let here = h (suc k) (omega (arith, within)) in omega (arith, here)))

row_of : (t : TypeTable) (o : ℕ) → IsTypeTable t → o < length t.operations → IsRow (length t.states) (length t.responses) (slice_index_or t.operations o no_row)
row_of t o table known = all_at (IsRow (length t.states) (length t.responses)) t.operations o no_row known table.rows

pub idle_by_test : (t : TypeTable) (o : ℕ) → IsTypeTable t → o < length t.operations → changes_nothing t o ≡ true → IsIdle t o
idle_by_test t o table known test q within =
    let here = in_place 0 (slice_index_or t.operations o no_row).next test q (rw (row_of t o table known).next_len within) in omega (arith, here)

pub test_of_idle : (t : TypeTable) (o : ℕ) → IsTypeTable t → o < length t.operations → IsIdle t o → changes_nothing t o ≡ true
test_of_idle t o table known idle =
    from_places 0 (slice_index_or t.operations o no_row).next (λ k within. let here = idle k (rw (row_of t o table known).next_len at within) in omega (arith, here))
