-- How often operations stand in lists.
use Rattle.std.proofs.Common.{◌≡◌, ◌≢◌, ℕ, zero, suc, ◌+◌, ◌<◌, ◌≤◌, ◌⊎◌, inl, inr, List, [], ◌∷◌, ◌++◌, length, get_or, refl, sym, ap, ◌∙◌, arith, cond, nat_eq}
use Rattle.std.proofs.lemmas.Bool.{eq-eqb, ne_eqb}
use Rattle.std.proofs.lemmas.List.Sums.{sum_by-append, sum_by-cons}
use Rattle.cn_stocks.specs.Words.{HaveSame, IsWithin, times}

-- 1 where x is o, else 0
abbrev pub one : ℕ → ℕ → ℕ
one o x = cond (nat_eq x o) 1 0

pub times_cons : (o x : ℕ) (xs : List ℕ) → times o (x ∷ xs) ≡ one o x + times o xs
times_cons o x xs = sum_by-cons (one o) x xs

pub times_append : (o : ℕ) (xs ys : List ℕ) → times o (xs ++ ys) ≡ times o xs + times o ys
times_append o xs ys = sum_by-append (one o) xs ys

pub times_none : (o : ℕ) → times o [] ≡ 0
times_none o = refl

pub one_of : (o x : ℕ) → x ≡ o → one o x ≡ 1
one_of o x e = rw (eq-eqb x o e) refl

pub one_at : (o : ℕ) → one o o ≡ 1
one_at o = one_of o o refl

pub one_else : (o x : ℕ) → x ≢ o → one o x ≡ 0
one_else o x n = rw (ne_eqb x o n) refl

pub same_or : (x o : ℕ) → (x ≡ o) ⊎ (x ≢ o)
same_or zero zero = inl refl
same_or zero (suc o) = inr (λ e. absurd (omega (arith, e)))
same_or (suc x) zero = inr (λ e. absurd (omega (arith, e)))
same_or (suc x) (suc o) = elim (same_or x o) [ inl e ↦ inl (ap suc e) | inr n ↦ inr (λ e. n (omega (arith, e))) ]

pub one_some : (o x : ℕ) → 1 ≤ one o x → x ≡ o
one_some o x l = elim (same_or x o) [ inl e ↦ e | inr n ↦ absurd (omega (arith, l, one_else o x n)) ]

-- with one operation at the end, or in between
pub times_last : (o x : ℕ) (xs : List ℕ) → times o (xs ++ x ∷ []) ≡ times o xs + one o x
times_last o x xs = omega (arith, times_append o xs (x ∷ []), times_cons o x [], times_none o)

pub times_between : (o x : ℕ) (xs ys : List ℕ) → times o (xs ++ x ∷ ys) ≡ one o x + (times o xs + times o ys)
times_between o x xs ys = omega (arith, times_append o xs (x ∷ ys), times_cons o x ys)

pub times_at : (o : ℕ) (xs : List ℕ) → 1 ≤ times o (o ∷ xs)
times_at o xs = omega (arith, times_cons o o xs, one_at o)

-- where it stands
pub place_in : (o : ℕ) (xs : List ℕ) → 1 ≤ times o xs → (i : ℕ) × (i < length xs) × (get_or xs i 0 ≡ o)
place_in o [] l = absurd (omega (arith, l, times_none o))
place_in o (x ∷ xs) l = elim (same_or x o) [
  | inl e ↦ (0, omega arith, e)
  | inr n ↦ (let r = place_in o xs (omega (arith, l, times_cons o x xs, one_else o x n)) in (suc r.0, omega (arith, r.1), r.2))
]

pub times_of_place : (xs : List ℕ) (i : ℕ) → i < length xs → 1 ≤ times (get_or xs i 0) xs
times_of_place [] i l = absurd (omega arith)
times_of_place (x ∷ xs) zero l = times_at x xs
times_of_place (x ∷ xs) (suc i) l = omega (arith, times_of_place xs i (omega arith), times_cons (get_or xs i 0) x xs)

-- ---- words within a stock

pub within_same : (a b word : List ℕ) → HaveSame a b → IsWithin a word → IsWithin b word
within_same a b word s w o = omega (arith, s o, w o)

pub same_sym : (a b : List ℕ) → HaveSame a b → HaveSame b a
same_sym a b s o = sym (s o)

pub same_trans : (a b c : List ℕ) → HaveSame a b → HaveSame b c → HaveSame a c
same_trans a b c s u o = s o ∙ u o

-- what is left where the same operation is taken away is the same
pub same_rest : (a x : ℕ) (stock us vs : List ℕ) → a ≡ x → HaveSame stock (a ∷ us) → HaveSame stock (x ∷ vs) → HaveSame us vs
same_rest a x stock us vs e s u o =
    let f : times o (a ∷ us) ≡ times o (x ∷ us) = ap (λ (y : ℕ). times o (y ∷ us)) e in
    omega (arith, s o, u o, f, times_cons o x us, times_cons o x vs)

pub same_has : (x : ℕ) (stock rest : List ℕ) → HaveSame stock (x ∷ rest) → 1 ≤ times x stock
same_has x stock rest s = omega (arith, s x, times_at x rest)
