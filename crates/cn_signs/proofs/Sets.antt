-- Sets of numbers, and numbers that are sets.
use Rattle.std.proofs.Common.{◌≡◌, ℕ, ◌-◌, ◌^◌, ◌<◌, ◌≤◌, ◌↔◌, inl, inr, refl, sym, subst, ◌∙◌, arith, bit_and, bit_or, Bool, true, false, true≢false, not, nat_eq}
use Rattle.std.specs.Int.{bit_at}
use Rattle.std.specs.Prelude.{IsBitSet}
use Rattle.std.proofs.lemmas.Bool.{cases_lt, eqb-true, eq-eqb, false_from_ne_true}
use Rattle.std.proofs.lemmas.Nat.{le_or_l}
use Rattle.std.proofs.lemmas.Nat.Bits.{bit_at_or, same_from_bits}
use Rattle.cn_outcomes.proofs.BitSets.{by_bit}
use Rattle.cn_outcomes.proofs.LastProcess.{bit_from, set_from}
use Rattle.cn_outcomes.proofs.MemberLemmas.{all_set}

-- whether the number is in the set
abbrev pub has : ℕ → ℕ → Bool
has set k = not (nat_eq (bit_and set (2 ^ k)) 0)

by_test : (set k : ℕ) (none : Bool) → nat_eq (bit_and set (2 ^ k)) 0 ≡ none → (not none ≡ true) ↔ IsBitSet set k
by_test set k true e = (λ f. absurd (true≢false (sym f)), λ n. absurd (n (eqb-true (bit_and set (2 ^ k)) 0 e)))
by_test set k false e = (λ _ z. true≢false (sym (eq-eqb (bit_and set (2 ^ k)) 0 z) ∙ e), λ _. refl)

pub has_exact : (set k : ℕ) → (has set k ≡ true) ↔ IsBitSet set k
has_exact set k = by_test set k (nat_eq (bit_and set (2 ^ k)) 0) refl

pub has_not : (set k : ℕ) → ¬ IsBitSet set k → has set k ≡ false
has_not set k none = false_from_ne_true (has set k) (λ e. none ((has_exact set k).0 e))

-- a part of a set is no greater number
pub part_below : (part whole : ℕ) → ((q : ℕ) → IsBitSet part q → IsBitSet whole q) → part ≤ whole
part_below part whole within =
    let same : whole ≡ bit_or part whole = same_from_bits whole (bit_or part whole) (λ i. omega (arith, bit_at_or part whole i, bit_within i)) in
    omega (arith, same, le_or_l part whole)
  where
    bit_within : (i : ℕ) → bit_at part i ≤ bit_at whole i
    bit_within i = elim (by_bit part i) [ inl z ↦ omega (arith, z) | inr o ↦ omega (arith, o, bit_from whole i (within i (set_from part i o))) ]

-- a set without some of its numbers is a smaller number
pub rest_below : (left gone rest : ℕ) → ((q : ℕ) → IsBitSet gone q → IsBitSet left q) → ((q : ℕ) → IsBitSet rest q ↔ (IsBitSet left q × ¬ IsBitSet gone q))
    → (((q : ℕ) → ¬ IsBitSet gone q) → ⊥) → rest < left
rest_below left gone rest within less some = elim (cases_lt rest left) [
  | inl l ↦ l
  | inr more ↦
      (let e : left ≡ rest = omega (arith, more, part_below rest left (λ q h. ((less q).0 h).0)) in
      absurd (some (λ q h. ((less q).0 (subst (λ (n : ℕ). IsBitSet n q) e (within q h))).1 h)))
]

-- a set of numbers below 16 is below 65536
pub small : (set : ℕ) → ((q : ℕ) → IsBitSet set q → q < 16) → set < 65536
small set below = let most : set ≤ 2 ^ 16 - 1 = part_below set (2 ^ 16 - 1) (λ q h. (all_set q).1 (below q h)) in omega (arith, most)
