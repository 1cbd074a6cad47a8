-- Sets of pairs.
use Rattle.std.proofs.Common.{◌≡◌, ◌≢◌, ℕ, zero, suc, ◌^◌, ◌<◌, ◌≤◌, ◌↔◌, inl, inr, List, [], ◌∷◌, length, get_or, refl, sym, ◌∙◌, subst, arith, Bool, true, false, not, nat_eq, true≢false}
use Rattle.std.specs.Prelude.{IsBitSet, IsTrue}
use Rattle.std.specs.Int.{trailing_zeros, w16}
use Rattle.std.proofs.lemmas.Bool.{eqb-true, eq-eqb}
use Rattle.std.proofs.lemmas.Nat.Bits.{bit_at-trailing_zeros}
use Rattle.cn_outcomes.proofs.LastProcess.{set_from, zero_has_none}
use Rattle.cn_outcomes.proofs.Unions.{nothing_beyond}
use Rattle.cn_stocks.specs.declared.pair_sets.PairSet.{PairSet}
use Rattle.cn_stocks.specs.Pairs.{Has, set_at}
use Rattle.cn_stocks.proofs.StockLemmas.{before_or_behind}

-- a number of a set that is not empty
pub some_bit : (n : ℕ) → n < 2 ^ 16 → n ≢ 0 → (q : ℕ) × IsBitSet n q
some_bit n l some = (trailing_zeros w16 n, set_from n (trailing_zeros w16 n) (bit_at-trailing_zeros w16 n (omega (arith, some)) l).1)

pub is_some_set : (n : ℕ) → n < 2 ^ 16 → IsTrue (not (nat_eq n 0)) ↔ ((q : ℕ) × IsBitSet n q)
is_some_set n l = cases (nat_eq n 0) refl
  where
    cases : (e : Bool) → nat_eq n 0 ≡ e → IsTrue (not e) ↔ ((q : ℕ) × IsBitSet n q)
    cases true e = (λ t. absurd (true≢false (sym t)), λ h. absurd (zero_has_none h.0 (subst (λ (x : ℕ). IsBitSet x h.0) (eqb-true n 0 e) h.1)))
    cases false e = (λ t. some_bit n l (λ z. true≢false (sym (eq-eqb n 0 z) ∙ e)), λ h. refl)

-- a set of pairs has no response above the length of its row
pub inside : (held : List ℕ) (r q : ℕ) → length held ≡ 16 → IsBitSet (get_or held r 0) q → r < 16
inside held r q l b = elim (before_or_behind r 16) [ inl u ↦ u | inr u ↦ absurd (nothing_beyond held 16 r q l u b) ]

-- where there is no set there is no pair
pub none_behind : (sets : List PairSet) (place r q : ℕ) → length sets ≤ place → ¬ Has (set_at sets place) r q
none_behind [] place r q l h = absurd (zero_has_none q h)
none_behind (s ∷ sets) zero r q l h = absurd (omega (arith, l))
none_behind (s ∷ sets) (suc place) r q l h = none_behind sets place r q (omega (arith, l)) h
