-- The list of the members of a set.
use Rattle.std.proofs.Common.{◌≡◌, ◌≢◌, ℕ, zero, suc, ◌+◌, ◌^◌, ◌<◌, ◌≤◌, ◌⊎◌, ◌-◌, inl, inr, ◌↔◌, List, [], ◌∷◌, refl, sym, ap, ◌∙◌, subst, arith, Bool, Contains, min, bit_and, bit_or}
use Rattle.std.specs.Prelude.{IsBitSet, eqb}
use Rattle.std.specs.List.{filter, range_with_len}
use Rattle.std.specs.Int.{bit_at, w16, w32, trailing_zeros}
use Rattle.std.proofs.lemmas.Nat.{or_disjoint, pow_pos}
use Rattle.std.proofs.lemmas.Nat.Bits.{bit_at-zero, bit_at_and, bit_at_not, bit_at_ones_above, bit_at_or, bit_at-trailing_zeros, same_from_bits}
use Rattle.std.proofs.lemmas.Bool.{cases_lt, eqb-true, eq-eqb}
use Rattle.cn_choice.proofs.ListLemmas.Filters.{kept, was_in}
use Rattle.cn_choice.proofs.ListLemmas.Members.{Contains-from_IsIn, IsIn-from_Contains}
use Rattle.cn_choice.proofs.ListLemmas.Permutations.{range_in}
use Rattle.cn_outcomes.specs.Bits.{members}
use Rattle.cn_outcomes.specs.Subsets.{IsWithout}
use Rattle.cn_outcomes.proofs.BitSets.{by_bit, cleared, cleared_is, cleared_other, cleared_same, member_below, without_less}
use Rattle.cn_outcomes.proofs.LastProcess.{bit_from, set_from, none_set, same_or_not, zero_has_none}

-- the members among n numbers from k on
abbrev listed : ℕ → ℕ → ℕ → List ℕ
listed n k set = filter (λ q. eqb (bit_at set q) 1) (range_with_len k n)

same_listed : (n k s t : ℕ) → ((i : ℕ) → k ≤ i → bit_at t i ≡ bit_at s i) → listed n k t ≡ listed n k s
same_listed zero k s t h = refl
same_listed (suc n) k s t h =
    let rest = same_listed n (k + 1) s t (λ i l. h i (omega (arith, l))) in
    rw (h k (omega arith), rest) refl

none_listed : (n k : ℕ) → listed n k 0 ≡ []
none_listed zero k = refl
none_listed (suc n) k = rw (bit_at-zero k, none_listed n (k + 1)) refl

first_listed : (n k s m t : ℕ) → k ≤ m → m < k + n → ((i : ℕ) → i < m → bit_at s i ≡ 0) → bit_at s m ≡ 1 → bit_at t m ≡ 0 → ((i : ℕ) → i ≢ m → bit_at t i ≡ bit_at s i)
    → listed n k s ≡ m ∷ listed n k t
first_listed zero k s m t l u none one off other = absurd (omega arith)
first_listed (suc n) k s m t l u none one off other = elim (same_or_not k m) [
  | inl e ↦ (
      let here : bit_at s k ≡ 1 = subst (λ (i : ℕ). bit_at s i ≡ 1) (sym e) one in
      let gone : bit_at t k ≡ 0 = subst (λ (i : ℕ). bit_at t i ≡ 0) (sym e) off in
      let rest = same_listed n (k + 1) s t (λ i b. other i (λ f. absurd (omega (arith, e, f, b)))) in
      rw (here, gone, rest, e) refl
      )
  | inr d ↦ (
      let below : k < m = omega arith in
      let clear = none k below in
      let clear_too : bit_at t k ≡ 0 = other k d ∙ clear in
      let rest = first_listed n (k + 1) s m t (omega (arith, below)) (omega (arith, u)) none one off other in
      rw (clear, clear_too) rest
      )
]

pub members_none : members 0 ≡ []
unfolding members
members_none = none_listed 16 0

-- a number, and the number less one, both have all bits but the lowest
lowest_cleared : (s m t : ℕ) → bit_at s m ≡ 1 → ((i : ℕ) → i < m → bit_at s i ≡ 0) → IsWithout s m t → bit_and s (s - 1) ≡ t
lowest_cleared s m t here none w = same_from_bits (bit_and s (s - 1)) t (λ i. bit_at_and s (s - 1) i ∙ each i (cases_lt i m))
  where
    within : (i : ℕ) → bit_at t i ≤ bit_at s i
    within i = elim (by_bit t i) [ inl z ↦ omega (arith, z) | inr o ↦ omega (arith, o, bit_from s i ((w i).0 (set_from t i o)).0) ]

    common : (i : ℕ) → (i < m) ⊎ (m ≤ i) → min (bit_at t i) (bit_at (2 ^ m - 1) i) ≡ 0
    common i (inl l) = omega (arith, none i l, within i)
    common i (inr l) = omega (arith, bit_at_ones_above m i l)

    apart : bit_and t (2 ^ m - 1) ≡ 0
    apart = same_from_bits (bit_and t (2 ^ m - 1)) 0 (λ i. bit_at_and t (2 ^ m - 1) i ∙ (common i (cases_lt i m) ∙ sym (bit_at-zero i)))

    less : s - 1 ≡ bit_or t (2 ^ m - 1)
    less = omega (arith, without_less s m t (set_from s m here) w, or_disjoint t (2 ^ m - 1) apart, pow_pos m)

    each : (i : ℕ) → (i < m) ⊎ (m ≤ i) → min (bit_at s i) (bit_at (s - 1) i) ≡ bit_at t i
    each i (inl l) = omega (arith, none i l, within i)
    each i (inr l) = omega (arith, ap (λ (n : ℕ). bit_at n i) less, bit_at_or t (2 ^ m - 1) i, bit_at_ones_above m i l, within i)

-- the least member comes first, and then the others
pub members_first : (s : ℕ) → 0 < s → s < 2 ^ 16 → members s ≡ trailing_zeros w32 s ∷ members (bit_and s (s - 1))
unfolding members
members_first s some few =
    let m = trailing_zeros w32 s in
    let least = bit_at-trailing_zeros w32 s some (omega (arith, few)) in
    let inside = member_below 16 s m few (set_from s m least.1) in
    rw (lowest_cleared s m (cleared s m) least.1 least.2 (cleared_is s m inside few)) (
    first_listed 16 0 s m (cleared s m) (omega arith) (omega (arith, inside)) least.2 least.1 (cleared_same s m inside) (λ i d. cleared_other s m i inside few d)
    )

-- the list has the members
pub members_contain : (s i : ℕ) → s < 2 ^ 16 → Contains (members s) i ↔ IsBitSet s i
unfolding members
members_contain s i l =
    let is_set : ℕ → Bool = λ q. eqb (bit_at s q) 1 in (
      λ h. set_from s i (eqb-true (bit_at s i) 1 (was_in is_set i (range_with_len 0 16) (IsIn-from_Contains i (members s) h)).1),
      λ b. Contains-from_IsIn i (members s) (kept is_set i (range_with_len 0 16) (range_in 0 16 i (omega arith) (omega (arith, member_below 16 s i l b))) (eq-eqb (bit_at s i) 1 (bit_from s i b))),
    )

-- the greatest number has all bits
pub all_set : (q : ℕ) → IsBitSet (2 ^ 16 - 1) q ↔ (q < 16)
all_set q = (
  λ b. member_below 16 (2 ^ 16 - 1) q (omega arith) b,
  λ l. set_from (2 ^ 16 - 1) q (omega (arith, bit_at_not w16 0 q (omega arith) l, bit_at-zero q)),
)

pub empty_none : (s : ℕ) → (s ≡ 0) ↔ ((q : ℕ) → ¬ IsBitSet s q)
empty_none s = (λ e q b. zero_has_none q (subst (λ (x : ℕ). IsBitSet x q) e b), λ n. none_set s n)
