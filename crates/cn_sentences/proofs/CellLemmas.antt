-- The numbers that the cells of a triangle tell.
use Rattle.std.proofs.Common.{◌≡◌, ◌∙◌, ℕ, zero, suc, ◌+◌, ◌<◌, ◌≤◌, ◌==◌, inl, inr, List, [], ◌∷◌, Bool, true, false, length, map, All, ap, arith, refl, subst, sym, true≢false, nat_lt}
use Rattle.std.specs.List.{range_with_len}
use Rattle.std.specs.Str.{bytes_eq}
use Rattle.std.proofs.Math.Nat.{eq-or-lt_of_le}
use Rattle.std.proofs.lemmas.List.Elements.{All-head, All-tail}
use Rattle.std.proofs.lemmas.Slice.Eq.{bytes_eq-Decides}
use Rattle.cn_table.specs.Restriction.{with_operations}
use Rattle.cn_table.specs.TypeTable.{TypeTable}
use Rattle.cn_choice.proofs.ListLemmas.Members.{IsIn, IsIn-append_left, IsIn-append_right, IsIn-map}
use Rattle.cn_search.specs.Numbers.{HasNumber}
use Rattle.cn_pairs.specs.SetNumbers.{AreSetNumbers, IsSetNumber, set_of}
use Rattle.cn_pairs.specs.Sublists.{sublists}
use Rattle.cn_pairs.specs.declared.pairs.Pairs.{Pairs}
use Rattle.cn_pairs.specs.declared.restricted.SetNumber.{SetNumber}
use Rattle.cn_sentences.specs.Triangle.{cell, set_number_text, TellsNumber}

-- the number of a set that is in the list
listed : (t : TypeTable) (sets : List SetNumber) (operations : List ℕ) → All (IsSetNumber t) sets → IsIn operations (map set_of sets) → TellsNumber t operations (set_number_text sets operations)
listed t [] operations all here = absurd here
listed t (s ∷ sets) operations all here = by_test (bytes_eq (set_of s) operations) refl (λ behind. listed t sets operations (All-tail (IsSetNumber t) s sets all) behind)
  where
    by_test : (b : Bool) → bytes_eq (set_of s) operations ≡ b → (IsIn operations (map set_of sets) → TellsNumber t operations (set_number_text sets operations))
        → TellsNumber t operations (set_number_text (s ∷ sets) operations)
    by_test true same rest =
        (s.number, subst (λ (os : List ℕ). HasNumber (with_operations t os) s.number) ((bytes_eq-Decides (set_of s) operations).0 same) (All-head (IsSetNumber t) s sets all), rw same refl)
    by_test false other rest =
        let behind : IsIn operations (map set_of sets) = elim here [
          | inl is ↦ absurd (true≢false (sym ((bytes_eq-Decides (set_of s) operations).1 is) ∙ other))
          | inr h ↦ h
        ] in
        let told = rest behind in
        (told.0, told.1, rw other told.2)

-- each number of a range is a sublist, and each ascending pair of them
single_in : (a m i : ℕ) → a ≤ i → i < a + m → IsIn (i ∷ []) (sublists 1 (range_with_len a m))
single_in a zero i low high = absurd (omega (arith, low, high))
single_in a (suc m) i low high = elim (eq-or-lt_of_le low) [
  | inl is ↦ inl (ap (λ (x : ℕ). x ∷ []) is)
  | inr less ↦ inr (single_in (a + 1) m i (omega (arith, less)) (omega (arith, high)))
]

pair_in : (a m i j : ℕ) → a ≤ i → i < j → j < a + m → IsIn (i ∷ j ∷ []) (sublists 2 (range_with_len a m))
pair_in a zero i j low less high = absurd (omega (arith, low, less, high))
pair_in a (suc m) i j low less high =
    let later : List ℕ = range_with_len (a + 1) m in
    let first : List (List ℕ) = map (λ (rest : List ℕ). a ∷ rest) (sublists 1 later) in
    elim (eq-or-lt_of_le low) [
      | inl is ↦
          IsIn-append_left (i ∷ j ∷ []) first (sublists 2 later)
          (subst (λ (x : ℕ). IsIn (x ∷ j ∷ []) first) is (IsIn-map (λ (rest : List ℕ). a ∷ rest) (j ∷ []) (sublists 1 later) (single_in (a + 1) m j (omega (arith, is, less)) (omega (arith, high)))))
      | inr more ↦ IsIn-append_right (i ∷ j ∷ []) first (sublists 2 later) (pair_in (a + 1) m i j (omega (arith, more)) less (omega (arith, high)))
    ]

pub single_cell : (t : TypeTable) (p : Pairs) (i : ℕ) → AreSetNumbers t 1 p.alone.items → i < length t.operations → TellsNumber t (i ∷ []) (cell p i i)
single_cell t p i are l =
    let member = subst (IsIn (i ∷ [])) (sym are.listed) (single_in 0 (length t.operations) i (omega arith) (omega (arith, l))) in
    let told = listed t p.alone.items (i ∷ []) are.numbers member in
    let here : nat_lt i i ≡ false = search arith in
    let same : (i == i) ≡ true = search arith in
    (told.0, told.1, rw (here, same) told.2)

pub pair_cell : (t : TypeTable) (p : Pairs) (i j : ℕ) → AreSetNumbers t 2 p.pairs.items → i < j → j < length t.operations → TellsNumber t (i ∷ j ∷ []) (cell p i j)
pair_cell t p i j are less l =
    let member = subst (IsIn (i ∷ j ∷ [])) (sym are.listed) (pair_in 0 (length t.operations) i j (omega arith) less (omega (arith, l))) in
    let told = listed t p.pairs.items (i ∷ j ∷ []) are.numbers member in
    let here : nat_lt j i ≡ false = search (arith, less) in
    let apart : (i == j) ≡ false = search (arith, less) in
    (told.0, told.1, rw (here, apart) told.2)
