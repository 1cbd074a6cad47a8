-- Which limits are taken.
use Rattle.std.proofs.Common.{ℕ, ◌≡◌, ◌≤◌, ◌+◌, ◌-◌, ◌*◌, ◌/◌, ◌∙◌, ◌&&◌, Bool, true, false, cond, length, None, Some, arith, leb-true, nat_le, zero, suc, refl}
use Rattle.std.proofs.lemmas.Bool.{and_parts, le-ltb}
use Rattle.std.proofs.lemmas.Nat.{mul-le}
use Rattle.std.proofs.Math.Nat.{div-le_self}
use Rattle.cn_choice.specs.Canonical.{canonical_choices}
use Rattle.cn_choice.specs.Counting.{choices_per_state, choose, pairs_in_order, rising_count}
use Rattle.cn_finding.specs.declared.limits.TheConstants.{GREATEST_LIMIT, LEAST_LIMIT}
use Rattle.cn_search.specs.Faults.{count_fault, find_fault}
use Rattle.cn_search.specs.declared.fault.FindFault.TheVariants.{BadLimit}

choose_one : (n : ℕ) → choose n 1 ≡ n
unfolding choose
choose_one zero = refl
choose_one (suc n) = omega (arith, choose_one n)

lists_of_one : (m : ℕ) → rising_count m 1 ≡ m
unfolding rising_count
lists_of_one m = let e : 1 + m - 1 ≡ m = omega arith in choose_one (1 + m - 1) ∙ e

few_pairs : (m : ℕ) → m ≤ 8 → choices_per_state m 2 ≤ 8 * 9
unfolding choices_per_state pairs_in_order
few_pairs m few =
    let most : m * (m + 1) ≤ 8 * 9 = mul-le m (m + 1) 8 9 few (omega arith) in
    let half : m * (m + 1) / 2 ≤ m * (m + 1) = div-le_self (m * (m + 1)) 2 in
    rw (lists_of_one m) (omega arith)

-- a table has few choices for two processes
pub least_taken : (states operations : ℕ) → states ≤ 16 → operations ≤ 8 → length (canonical_choices states operations 2) ≡ states * choices_per_state operations 2
    → find_fault states operations 2 ≡ None
least_taken states operations few_states few count =
    let bound : length (canonical_choices states operations 2) ≤ 16 * (8 * 9) = rw count (mul-le states (choices_per_state operations 2) 16 (8 * 9) few_states (few_pairs operations few)) in
    rw (le-ltb 100000 (length (canonical_choices states operations 2)) (omega arith)) refl

-- a limit that is taken is from the least one to the greatest
pub limit_within : (states operations limit : ℕ) → find_fault states operations limit ≡ None → (LEAST_LIMIT ≤ limit) × (limit ≤ GREATEST_LIMIT)
limit_within states operations limit e = by_test (nat_le LEAST_LIMIT limit && nat_le limit GREATEST_LIMIT) refl e
  where
    by_test : (b : Bool) → (nat_le LEAST_LIMIT limit && nat_le limit GREATEST_LIMIT) ≡ b → cond b (count_fault (length (canonical_choices states operations limit))) (Some BadLimit) ≡ None
        → (LEAST_LIMIT ≤ limit) × (limit ≤ GREATEST_LIMIT)
    by_test true t f = let parts = and_parts (nat_le LEAST_LIMIT limit) (nat_le limit GREATEST_LIMIT) t in (leb-true LEAST_LIMIT limit parts.0, leb-true limit GREATEST_LIMIT parts.1)
    by_test false t f = absurd (cc f)
