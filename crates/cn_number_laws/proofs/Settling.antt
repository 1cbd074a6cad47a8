-- States that are found while a pool of operations gets smaller, until none is new.
use Rattle.std.proofs.Common.{◌≡◌, ℕ, zero, suc, ◌+◌, ◌≤◌, List, ◌∷◌, length, arith, nat_eq}
use Rattle.std.specs.List.{AllByRecursion, IsDistinct}
use Rattle.cn_stocks.specs.Words.{IsWithin}
use Rattle.cn_stocks.proofs.Times.{times_cons}
use Rattle.cn_number_laws.proofs.Lists.{Without, each_more, new_distinct}

-- kinds of states, by the pool: with a smaller pool there are more of the kind
module _ (Kind : List ℕ → ℕ → Type 0) (more : (pool less : List ℕ) (q : ℕ) → IsWithin pool less → Kind pool q → Kind less q) where
  pub record Found (pool states : List ℕ) : Type 0 where
    pub distinct : IsDistinct nat_eq states
    pub kinds : AllByRecursion (Kind pool) states

  -- with one operation less in the pool no state is new
  abbrev pub Settled : List ℕ → Type 0
  Settled pool = (z : ℕ) (less : List ℕ) → Without pool z less → (q : ℕ) → Kind less q → ¬ Kind pool q → ⊥

  smaller : (pool less : List ℕ) (z : ℕ) → Without pool z less → IsWithin pool less
  smaller pool less z w o = omega (arith, w.same o, times_cons o z less)

  pub with_new : (pool less states : List ℕ) (q : ℕ) → IsWithin pool less → Found pool states → Kind less q → ¬ Kind pool q → Found less (q ∷ states)
  with_new pool less states q w f k new = record {
    distinct = new_distinct (Kind pool) q states new f.kinds f.distinct;
    kinds = (k, each_more (Kind pool) (Kind less) states (λ x. more pool less x w) f.kinds);
  }

  -- each new state costs one operation at most
  pub settle : (size : ℕ) (pool states : List ℕ) → length pool ≡ size → Found pool states
      → ((less found : List ℕ) → Found less found → IsWithin pool less → length pool + length states ≤ length less + length found → Settled less → ⊥) → ⊥
  settle zero pool states e f k = k pool states f (λ o. omega arith) (omega arith) (λ z less w q new old. absurd (omega (arith, e, w.long)))
  settle (suc size) pool states e f k = k pool states f (λ o. omega arith) (omega arith) (λ z less w q new old.
      settle size less (q ∷ states) (omega (arith, e, w.long)) (with_new pool less states q (smaller pool less z w) f new old)
      (λ last found g s c st. k last found g (λ o. omega (arith, s o, smaller pool less z w o)) (omega (arith, c, w.long)) st))
