-- What is found by halves in a list that is in order.
use Rattle.std.proofs.Common.{◌≡◌, ℕ, ◌+◌, ◌-◌, ◌<◌, ◌≤◌, List, length, get_or, inl, inr, sym, ap, ◌∙◌}
use Rattle.std.proofs.Common.{arith, true, false, leb, ltb}
use Rattle.std.specs.Prelude.{Contains}
use Rattle.std.specs.List.Sorted.{IsPartitionPoint}
use Rattle.std.proofs.lemmas.Bool.{cases_lt, leb-false, ltb-true}

-- near are the first j of rest, and rest are the elements of xs from i on
module _ {X : Type 0} (n : X → ℕ) (m : ℕ) (xs rest near : List X) (i j : ℕ)
    (rest_at : (k : ℕ) (d : X) → k < length rest → get_or rest k d ≡ get_or xs (i + k) d)
    (rest_length : length rest + i ≡ length xs)
    (near_at : (k : ℕ) (d : X) → k < j → get_or near k d ≡ get_or rest k d)
    (near_length : length near ≡ j) (within : j ≤ length rest) where
  pub found_listed : (x : X) → Contains near x → Contains xs x
  found_listed x h =
      let l : h.0 < j = omega (arith, h.1, near_length) in (
        i + h.0,
        omega (arith, l, within, rest_length),
        sym (rest_at h.0 x (omega (arith, l, within))) ∙ (sym (near_at h.0 x l) ∙ h.2),
      )

  module _ (low : IsPartitionPoint (λ y. ltb (n y) m ≡ true) (λ y. ltb (n y) m ≡ false) xs i)
      (high : IsPartitionPoint (λ y. leb (n y) m ≡ true) (λ y. leb (n y) m ≡ false) rest j) where
    by_place : (x : X) (k : ℕ) → k < length rest → get_or rest k x ≡ x → n x ≡ m → Contains near x
    by_place x k l e same = elim (cases_lt k j) [
      | inl below ↦ (k, omega (arith, below, near_length), near_at k x below ∙ e)
      | inr above ↦ (let a = leb-false (n (get_or rest k x)) m (high.1 k x above l) in
          let b : n (get_or rest k x) ≡ n x = ap n e in absurd (omega (arith, a, b, same)))
    ]

    pub all_found : (x : X) → Contains xs x → n x ≡ m → Contains near x
    all_found x h same = elim (cases_lt h.0 i) [
      | inl below ↦ (let a = ltb-true (n (get_or xs h.0 x)) m (low.0 h.0 x (omega arith) below) in
          let b : n (get_or xs h.0 x) ≡ n x = ap n h.2 in absurd (omega (arith, a, b, same)))
      | inr above ↦ (let k : ℕ = h.0 - i in
          let e : i + k ≡ h.0 = omega (arith, above) in
          let l : k < length rest = omega (arith, e, h.1, rest_length) in
          by_place x k l (rest_at k x l ∙ (ap (λ (q : ℕ). get_or xs q x) e ∙ h.2)) same)
    ]
