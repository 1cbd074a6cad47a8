-- Sets of states as numbers.
use Rattle.std.proofs.Common.{◌≡◌, ℕ, ◌-◌, ◌^◌, ◌<◌, ◌≤◌, ◌⊎◌, inl, inr, ◌↔◌, bit_or, sym, ◌∙◌, arith}
use Rattle.std.specs.Int.{bit_at}
use Rattle.std.specs.Prelude.{IsBitSet}
use Rattle.std.proofs.lemmas.Nat.{le_or_l}
use Rattle.std.proofs.lemmas.Nat.Bits.{same_from_bits}
use Rattle.cn_outcomes.proofs.BitSets.{by_bit, union_set}
use Rattle.cn_outcomes.proofs.LastProcess.{bit_from, set_from}
use Rattle.cn_outcomes.proofs.MemberLemmas.{all_set}

-- a set with all states of another one is not below it
pub union_above : (a b u : ℕ) → ((q : ℕ) → IsBitSet u q ↔ (IsBitSet a q ⊎ IsBitSet b q)) → a ≤ u
union_above a b u h =
    let same : u ≡ bit_or a b = same_from_bits u (bit_or a b) (λ i. bits i (by_bit u i) (by_bit (bit_or a b) i)) in
    omega (arith, same, le_or_l a b)
  where
    bits : (i : ℕ) → (bit_at u i ≡ 0) ⊎ (bit_at u i ≡ 1) → (bit_at (bit_or a b) i ≡ 0) ⊎ (bit_at (bit_or a b) i ≡ 1) → bit_at u i ≡ bit_at (bit_or a b) i
    bits i (inl x) (inl y) = x ∙ sym y
    bits i (inl x) (inr y) = absurd (omega (arith, x, bit_from u i ((h i).1 ((union_set a b i).0 (set_from (bit_or a b) i y)))))
    bits i (inr x) (inl y) = absurd (omega (arith, y, bit_from (bit_or a b) i ((union_set a b i).1 ((h i).0 (set_from u i x)))))
    bits i (inr x) (inr y) = x ∙ sym y

-- a set of numbers below 16 is below 2 to the 16
pub small_set : (set : ℕ) → ((q : ℕ) → IsBitSet set q → q < 16) → set < 2 ^ 16
small_set set below =
    let most = union_above set (2 ^ 16 - 1) (2 ^ 16 - 1) (λ q. (λ b. inr b, λ h. elim h [ inl s ↦ (all_set q).1 (below q s) | inr b ↦ b ])) in
    omega (arith, most)
