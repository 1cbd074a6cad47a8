-- Arrays that are filled from the front.
use Rattle.std.proofs.Common.{ℕ, zero, suc, ◌+◌, ◌<◌, ◌≤◌, inl, inr, List, length, get_or, replicate, sym, subst, arith, get_or-set_other, get_or-set_same}
use Rattle.std.proofs.Math.ListN.{set}
use Rattle.cn_outcomes.proofs.LastProcess.{zero_has_none}
use Rattle.cn_outcomes.proofs.Packing.{below_or_last}
use Rattle.cn_stocks.specs.declared.pair_sets.PairSet.{PairSet}
use Rattle.cn_stocks.specs.Pairs.{Has, set_at}

module _ {X : Type 0} (d : X) (P : ℕ → X → Type 0) (xs : List X) (k : ℕ) (x : X) where
  -- what holds of the places so far
  pub set_done : k < length xs → P k x → ((i : ℕ) → i < k → P i (get_or xs i d)) → (i : ℕ) → i < k + 1 → P i (get_or (set xs k x) i d)
  set_done room here old i l = elim (below_or_last i k l) [
    | inl u ↦ subst (P i) (sym (get_or-set_other xs k i x d (λ e. absurd (omega (arith, u, e))))) (old i u)
    | inr e ↦ subst (λ (j : ℕ). P j (get_or (set xs k x) j d)) (sym e) (subst (P k) (sym (get_or-set_same xs k x d room)) here)
  ]

  -- what holds of the others still does
  pub set_rest : ((i : ℕ) → k ≤ i → P i (get_or xs i d)) → (i : ℕ) → k + 1 ≤ i → P i (get_or (set xs k x) i d)
  set_rest old i l = subst (P i) (sym (get_or-set_other xs k i x d (λ e. absurd (omega (arith, l, e))))) (old i (omega (arith, l)))

-- in an array of empty sets
pub none_at : (n : ℕ) (none : PairSet) → ((r q : ℕ) → ¬ Has none r q) → (place r q : ℕ) → ¬ Has (set_at (replicate n none) place) r q
none_at zero none empty place r q h = zero_has_none q h
none_at (suc n) none empty zero r q h = empty r q h
none_at (suc n) none empty (suc place) r q h = none_at n none empty place r q h
