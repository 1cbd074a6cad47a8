-- How often operations stand in words of one operation often and another one once.
use Rattle.std.proofs.Common.{◌≡◌, ◌≢◌, ℕ, zero, suc, ◌+◌, ◌*◌, ◌<◌, ◌≤◌, ◌⊎◌, inl, inr, List, [], ◌∷◌, length, refl, sym, ap, ◌∙◌, arith, cond, nat_eq}
use Rattle.std.specs.Prelude.{replicate}
use Rattle.std.proofs.lemmas.Bool.{eq-eqb, ne_eqb}
use Rattle.cn_stocks.specs.Words.{IsKnown, IsWithin, times}
use Rattle.cn_stocks.proofs.Times.{one, one_at, one_else, one_of, same_or, times_at, times_cons, times_none}
use Rattle.cn_stocks.specs.Lasting.{single_and}

pub times_same : (o k : ℕ) → times o (replicate k o) ≡ k
times_same o zero = times_none o
times_same o (suc k) = omega (arith, times_cons o o (replicate k o), one_at o, times_same o k)

pub times_other : (x o k : ℕ) → o ≢ x → times x (replicate k o) ≡ 0
times_other x o zero n = times_none x
times_other x o (suc k) n = omega (arith, times_cons x o (replicate k o), one_else x o n, times_other x o k n)

pub length_same : (k o : ℕ) → length (replicate k o) ≡ k
length_same zero o = refl
length_same (suc k) o = omega (arith, length_same k o)

pub zero_or_one : (x : ℕ) → x ≤ 1 → (x ≡ 0) ⊎ (x ≡ 1)
zero_or_one zero l = inl refl
zero_or_one (suc zero) l = inr refl
zero_or_one (suc (suc x)) l = absurd (omega arith)

-- the times of an operation in the stock of one once and another one so often
pub times_stock : (x single many k : ℕ) → times x (single_and single many k) ≡ one x single + times x (replicate k many)
times_stock x single many k = times_cons x single (replicate k many)

-- a longer stock has more words
pub within_more : (single many k l : ℕ) (word : List ℕ) → k ≤ l → IsWithin (single_and single many k) word → IsWithin (single_and single many l) word
within_more single many k l word h w x = elim (same_or many x) [
  | inl e ↦ (
      let a : times x (replicate k many) ≡ times x (replicate k x) = ap (λ (y : ℕ). times x (replicate k y)) e in
      let b : times x (replicate l many) ≡ times x (replicate l x) = ap (λ (y : ℕ). times x (replicate l y)) e in
      omega (arith, w x, times_stock x single many k, times_stock x single many l, a, b, times_same x k, times_same x l)
      )
  | inr n ↦ omega (arith, w x, times_stock x single many k, times_stock x single many l, times_other x many k n, times_other x many l n)
]

-- what is within such a stock is within each stock that has as many
pub within_stock : (single many k : ℕ) (stock word : List ℕ) → many ≢ single → k ≤ times many stock → 1 ≤ times single stock → IsWithin (single_and single many k) word → IsWithin stock word
within_stock single many k stock word d enough some w x = elim (same_or many x) [
  | inl e ↦ (
      let a : times x (replicate k many) ≡ times x (replicate k x) = ap (λ (y : ℕ). times x (replicate k y)) e in
      let b : times many stock ≡ times x stock = ap (λ (y : ℕ). times y stock) e in
      omega (arith, w x, times_stock x single many k, a, b, times_same x k, one_else x single (λ h. d (e ∙ sym h)), enough)
      )
  | inr n ↦ elim (same_or single x) [
    | inl e ↦ (
        let b : times single stock ≡ times x stock = ap (λ (y : ℕ). times y stock) e in
        omega (arith, w x, times_stock x single many k, times_other x many k n, one_of x single e, b, some)
        )
    | inr m ↦ omega (arith, w x, times_stock x single many k, times_other x many k n, one_else x single m)
  ]
]

-- ---- one of many operations stands often in a long list

leave : ℕ → List ℕ → List ℕ
leave o [] = []
leave o (x ∷ xs) = cond (nat_eq x o) (leave o xs) (x ∷ leave o xs)

leave_same : (o x : ℕ) (xs : List ℕ) → x ≡ o → leave o (x ∷ xs) ≡ leave o xs
unfolding leave
leave_same o x xs e = rw (eq-eqb x o e) refl

leave_other : (o x : ℕ) (xs : List ℕ) → x ≢ o → leave o (x ∷ xs) ≡ x ∷ leave o xs
unfolding leave
leave_other o x xs n = rw (ne_eqb x o n) refl

leave_length : (o : ℕ) (xs : List ℕ) → length xs ≡ times o xs + length (leave o xs)
unfolding leave
leave_length o [] = omega (arith, times_none o)
leave_length o (x ∷ xs) = elim (same_or x o) [
  | inl e ↦ omega (arith, ap length (leave_same o x xs e), times_cons o x xs, one_of o x e, leave_length o xs)
  | inr n ↦ omega (arith, ap length (leave_other o x xs n), times_cons o x xs, one_else o x n, leave_length o xs)
]

leave_none : (o : ℕ) (xs : List ℕ) → times o (leave o xs) ≡ 0
unfolding leave
leave_none o [] = times_none o
leave_none o (x ∷ xs) = elim (same_or x o) [
  | inl e ↦ ap (times o) (leave_same o x xs e) ∙ leave_none o xs
  | inr n ↦ omega (arith, ap (times o) (leave_other o x xs n), times_cons o x (leave o xs), one_else o x n, leave_none o xs)
]

leave_less : (o y : ℕ) (xs : List ℕ) → times y (leave o xs) ≤ times y xs
unfolding leave
leave_less o y [] = omega (arith, times_none y)
leave_less o y (x ∷ xs) = elim (same_or x o) [
  | inl e ↦ omega (arith, ap (times y) (leave_same o x xs e), times_cons y x xs, leave_less o y xs)
  | inr n ↦ omega (arith, ap (times y) (leave_other o x xs n), times_cons y x xs, times_cons y x (leave o xs), leave_less o y xs)
]

pub less_or_not : (a b : ℕ) → (a < b) ⊎ (b ≤ a)
less_or_not a zero = inr (omega arith)
less_or_not zero (suc b) = inl (omega arith)
less_or_not (suc a) (suc b) = elim (less_or_not a b) [ inl h ↦ inl (omega arith) | inr h ↦ inr (omega arith) ]

rest_known : (m : ℕ) (xs : List ℕ) → IsKnown (suc m) xs → IsKnown m (leave m xs)
rest_known m xs known y some = elim (same_or y m) [
  | inl e ↦ absurd (let h : times y (leave m xs) ≡ times m (leave m xs) = ap (λ (z : ℕ). times z (leave m xs)) e in omega (arith, h, leave_none m xs, some))
  | inr n ↦ omega (arith, known y (omega (arith, leave_less m y xs, some)), n)
]

pub stands_often : (m k : ℕ) (xs : List ℕ) → IsKnown m xs → m * k < length xs → (o : ℕ) × (o < m) × (k < times o xs)
stands_often zero k [] known l = absurd (omega (arith, l))
stands_often zero k (x ∷ xs) known l = absurd (omega (arith, known x (times_at x xs)))
stands_often (suc m) k xs known l = elim (less_or_not k (times m xs)) [
  | inl h ↦ (m, omega arith, h)
  | inr h ↦ (
      let r = stands_often m k (leave m xs) (rest_known m xs known) (omega (arith, leave_length m xs, l, h)) in
      (r.0, omega (arith, r.1), omega (arith, r.2, leave_less m r.0 xs))
      )
]
