-- Whether two operations are copies can be decided.
use Rattle.std.proofs.Common.{◌≡◌, ℕ, zero, suc, ◌<◌, ◌⊎◌, inl, inr, length, refl, ap, subst, sym, arith}
use Rattle.cn_table.specs.TypeTable.{TypeTable, transition}
use Rattle.cn_copies.specs.Copies.{AreCopies, IsCopy}

-- a last number, or a lesser one
pub last_or_less : (q n : ℕ) → q < suc n → (q < n) ⊎ (q ≡ n)
last_or_less q zero l = inr (omega (arith, l))
last_or_less zero (suc n) l = inl (omega arith)
last_or_less (suc q) (suc n) l = elim (last_or_less q n (omega (arith, l))) [ inl u ↦ inl (omega (arith, u)) | inr e ↦ inr (ap suc e) ]

equal_or : (m n : ℕ) → (m ≡ n) ⊎ ((m ≡ n) → ⊥)
equal_or zero zero = inl refl
equal_or zero (suc n) = inr (λ e. absurd (omega (arith, e)))
equal_or (suc m) zero = inr (λ e. absurd (omega (arith, e)))
equal_or (suc m) (suc n) = elim (equal_or m n) [ inl e ↦ inl (ap suc e) | inr isnt ↦ inr (λ e. isnt (omega (arith, e))) ]

same_or : (a b : ℕ × ℕ) → (a ≡ b) ⊎ ((a ≡ b) → ⊥)
same_or (a, b) (c, d) = elim (equal_or a c) [
  | inr isnt ↦ inr (λ e. isnt (ap (λ (p : ℕ × ℕ). p.0) e))
  | inl e ↦ elim (equal_or b d) [
    | inr isnt ↦ inr (λ f. isnt (ap (λ (p : ℕ × ℕ). p.1) f))
    | inl f ↦ inl (rw (e, f) refl)
  ]
]

-- what can be decided of each number holds of all below n, or not
all_or : (P : ℕ → Type 0) → ((q : ℕ) → P q ⊎ (P q → ⊥)) → (n : ℕ) → ((q : ℕ) → q < n → P q) ⊎ (((q : ℕ) → q < n → P q) → ⊥)
all_or P each zero = inl (λ q l. absurd (omega (arith, l)))
all_or P each (suc n) = elim (each n) [
  | inr isnt ↦ inr (λ all. isnt (all n (omega arith)))
  | inl is ↦ elim (all_or P each n) [
    | inr isnt ↦ inr (λ all. isnt (λ q l. all q (omega (arith, l))))
    | inl all ↦ inl (λ q l. elim (last_or_less q n l) [ inl u ↦ all q u | inr e ↦ subst P (sym e) is ])
  ]
]

some_or : (P : ℕ → Type 0) → ((q : ℕ) → P q ⊎ (P q → ⊥)) → (n : ℕ) → ((q : ℕ) × (q < n) × P q) ⊎ (((q : ℕ) × (q < n) × P q) → ⊥)
some_or P each zero = inr (λ s. absurd (omega (arith, s.1)))
some_or P each (suc n) = elim (each n) [
  | inl is ↦ inl (n, omega arith, is)
  | inr isnt ↦ elim (some_or P each n) [
    | inl s ↦ inl (s.0, omega (arith, s.1), s.2)
    | inr none ↦ inr (λ s. elim (last_or_less s.0 n s.1) [ inl u ↦ none (s.0, u, s.2) | inr e ↦ isnt (subst P e s.2) ])
  ]
]

copies_or : (t : TypeTable) (o p : ℕ) → AreCopies t o p ⊎ (AreCopies t o p → ⊥)
copies_or t o p = all_or (λ q. transition t o q ≡ transition t p q) (λ q. same_or (transition t o q) (transition t p q)) (length t.states)

pub is_copy_or : (t : TypeTable) (o : ℕ) → IsCopy t o ⊎ (IsCopy t o → ⊥)
is_copy_or t o = some_or (λ p. AreCopies t p o) (λ p. copies_or t p o) o
