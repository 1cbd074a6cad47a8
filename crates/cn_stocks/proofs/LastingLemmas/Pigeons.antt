-- Of more than n numbers below n two are equal.
use Rattle.std.proofs.Common.{◌≡◌, ◌≢◌, ℕ, zero, suc, ◌<◌, ◌⊎◌, inl, inr, refl, sym, ◌∙◌, arith, cond, nat_eq}
use Rattle.std.proofs.lemmas.Bool.{eq-eqb, ne_eqb}
use Rattle.cn_outcomes.proofs.Packing.{below_or_last}
use Rattle.cn_stocks.proofs.Times.{same_or}

pub record Twins (f : ℕ → ℕ) (end : ℕ) : Type 0 where
  pub first : ℕ
  pub second : ℕ
  pub before : first < second
  pub inside : second < end
  pub same : f first ≡ f second

seek : (f : ℕ → ℕ) (v end : ℕ) → ((i : ℕ) × (i < end) × (f i ≡ v)) ⊎ ((i : ℕ) → i < end → f i ≢ v)
seek f v zero = inr (λ i l. absurd (omega (arith, l)))
seek f v (suc end) = elim (seek f v end) [
  | inl r ↦ inl (r.0, omega (arith, r.1), r.2)
  | inr never ↦ elim (same_or (f end) v) [
    | inl e ↦ inl (end, omega arith, e)
    | inr n ↦ inr (λ i l e. elim (below_or_last i end (omega (arith, l))) [ inl u ↦ never i u e | inr s ↦ n (sym (at i s) ∙ e) ])
  ]
]
  where
    at : (i : ℕ) → i ≡ end → f i ≡ f end
    at i s = rw s refl

-- where the greatest value n is given up for v
swapped : (ℕ → ℕ) → ℕ → ℕ → ℕ → ℕ
swapped f n v i = cond (nat_eq (f i) n) v (f i)

swapped_at : (f : ℕ → ℕ) (n v i : ℕ) → f i ≡ n → swapped f n v i ≡ v
unfolding swapped
swapped_at f n v i e = rw (eq-eqb (f i) n e) refl

swapped_else : (f : ℕ → ℕ) (n v i : ℕ) → f i ≢ n → swapped f n v i ≡ f i
unfolding swapped
swapped_else f n v i d = rw (ne_eqb (f i) n d) refl

pub twins : (n : ℕ) (f : ℕ → ℕ) → ((i : ℕ) → i < suc n → f i < n) → Twins f (suc n)
twins zero f below = absurd (omega (arith, below 0 (omega arith)))
twins (suc n) f below = elim (seek f (f (suc n)) (suc n)) [
  | inl r ↦ record { first = r.0; second = suc n; before = omega (arith, r.1); inside = omega arith; same = r.2 }
  | inr never ↦ (
      let r = twins n (swapped f n (f (suc n))) (λ i l. less i l never (same_or (f i) n)) in
      record {
        first = r.first;
        second = r.second;
        before = r.before;
        inside = omega (arith, r.inside);
        same = back r.first r.second (omega (arith, r.before, r.inside)) r.inside never r.same (same_or (f r.first) n) (same_or (f r.second) n);
      }
      )
]
  where
    less : (i : ℕ) → i < suc n → ((i : ℕ) → i < suc n → f i ≢ f (suc n)) → (f i ≡ n) ⊎ (f i ≢ n) → swapped f n (f (suc n)) i < n
    less i l never (inl e) = omega (arith, swapped_at f n (f (suc n)) i e, below (suc n) (omega arith), never i l, e)
    less i l never (inr d) = omega (arith, swapped_else f n (f (suc n)) i d, below i (omega arith), d)

    back : (i j : ℕ) → i < suc n → j < suc n → ((i : ℕ) → i < suc n → f i ≢ f (suc n)) → swapped f n (f (suc n)) i ≡ swapped f n (f (suc n)) j → (f i ≡ n) ⊎ (f i ≢ n)
        → (f j ≡ n) ⊎ (f j ≢ n) → f i ≡ f j
    back i j l u never e (inl a) (inl b) = a ∙ sym b
    back i j l u never e (inl a) (inr b) = absurd (never j u (sym (sym (swapped_at f n (f (suc n)) i a) ∙ (e ∙ swapped_else f n (f (suc n)) j b))))
    back i j l u never e (inr a) (inl b) = absurd (never i l (sym (swapped_else f n (f (suc n)) i a) ∙ (e ∙ swapped_at f n (f (suc n)) j b)))
    back i j l u never e (inr a) (inr b) = sym (swapped_else f n (f (suc n)) i a) ∙ (e ∙ swapped_else f n (f (suc n)) j b)
