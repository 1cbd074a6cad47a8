-- The operations of a type with some of its operations alone.
use Rattle.std.proofs.Common.{◌≡◌, ℕ, zero, suc, ◌<◌, inl, inr, List, [], ◌∷◌, length, map, get_or, Bool, true, false, true≢false, cond, nat_eq, refl, sym, ap, ◌∙◌, arith}
use Rattle.std.specs.Prelude.{slice_index, slice_index_or}
use Rattle.std.proofs.lemmas.Bool.{eqb-true, eq-eqb}
use Rattle.cn_table.specs.Restriction.{with_operations}
use Rattle.cn_table.specs.TypeTable.{Row, TypeTable, no_row, transition}
use Rattle.cn_choice.proofs.ListLemmas.Members.{IsIn}

-- the first place of x in the list
abbrev pub place : ℕ → List ℕ → ℕ
place x [] = zero
place x (y ∷ ys) = cond (nat_eq y x) zero (suc (place x ys))

pub place_at : (x : ℕ) (xs : List ℕ) → IsIn x xs → (place x xs < length xs) × (get_or xs (place x xs) 0 ≡ x)
place_at x [] h = absurd h
place_at x (y ∷ ys) h = by_test (nat_eq y x) refl (λ i. place_at x ys i)
  where
    by_test : (b : Bool) → nat_eq y x ≡ b → (IsIn x ys → (place x ys < length ys) × (get_or ys (place x ys) 0 ≡ x))
        → (cond b zero (suc (place x ys)) < suc (length ys)) × (get_or (y ∷ ys) (cond b zero (suc (place x ys))) 0 ≡ x)
    by_test true e later = (omega arith, eqb-true y x e)
    by_test false e later = elim h [
      | inl same ↦ absurd (true≢false (sym (eq-eqb y x same) ∙ e))
      | inr i ↦ (let r = later i in (omega (arith, r.0), r.1))
    ]

pub picked_at : (rows : List Row) (os : List ℕ) (i : ℕ) → i < length os
    → slice_index_or (map (λ o. slice_index_or rows o no_row) os) i no_row ≡ slice_index_or rows (get_or os i 0) no_row
picked_at rows [] i l = absurd (omega (arith, l))
picked_at rows (o ∷ os) zero l = refl
picked_at rows (o ∷ os) (suc i) l = picked_at rows os i (omega (arith, l))

-- the operation at a place does what it does in the whole type
pub picked_step : (t : TypeTable) (os : List ℕ) (i q : ℕ) → i < length os → transition (with_operations t os) i q ≡ transition t (get_or os i 0) q
picked_step t os i q l =
    ap (λ (row : Row). let step : ℕ × ℕ = (slice_index row.response q, slice_index row.next q) in step) (picked_at t.operations os i l)
