-- Lists of different states, and lists of operations without one of them.
use Rattle.std.proofs.Common.{◌≡◌, ℕ, suc, ◌≤◌, inl, inr, List, [], ◌∷◌, length, refl, sym, ap, subst, arith, Bool, true, false, true≢false, nat_eq, ◌||◌, Contains}
use Rattle.std.specs.List.{AllByRecursion, IsDistinct, list_any}
use Rattle.std.proofs.lemmas.Bool.{ne_eqb}
use Rattle.std.proofs.lemmas.Bool.Decides.{eqb_tells}
use Rattle.std.proofs.lemmas.Cmp.{nat_eq_equiv}
use Rattle.std.proofs.lemmas.Map.Keys.{IsDistinct-cons}
use Rattle.std.proofs.lemmas.Map.Made.{length-le_from_is_member}
use Rattle.std.proofs.lemmas.Map.Views.{list_any-from_Contains}
use Rattle.cn_stocks.specs.Words.{HaveSame, times}
use Rattle.cn_stocks.proofs.Times.{one, one_else, one_of, same_or, times_at, times_cons, times_none}

pub each_more : {X : Type 0} (P Q : X → Type 0) (xs : List X) → ((x : X) → P x → Q x) → AllByRecursion P xs → AllByRecursion Q xs
each_more P Q [] f a = tt
each_more P Q (x ∷ xs) f a = (f x a.0, each_more P Q xs f a.1)

-- a state that is not of the kind is different from those that are
others : (P : ℕ → Type 0) (q : ℕ) (xs : List ℕ) → ¬ P q → AllByRecursion P xs → AllByRecursion (λ x. nat_eq q x ≡ false) xs
others P q [] n a = tt
others P q (x ∷ xs) n a = (ne_eqb q x (λ e. n (subst P (sym e) a.0)), others P q xs n a.1)

pub new_distinct : (P : ℕ → Type 0) (q : ℕ) (xs : List ℕ) → ¬ P q → AllByRecursion P xs → IsDistinct nat_eq xs → IsDistinct nat_eq (q ∷ xs)
new_distinct P q xs n a d = IsDistinct-cons nat_eq q xs (others P q xs n a) d

pub none_distinct : IsDistinct nat_eq []
unfolding IsDistinct
none_distinct = tt

member_is : (P : ℕ → Type 0) (q : ℕ) (xs : List ℕ) → list_any (nat_eq q) xs ≡ true → AllByRecursion P xs → P q
member_is P q [] m a = absurd (true≢false (sym m))
member_is P q (x ∷ xs) m a = elim (eqb_tells q x) [
  | inl e ↦ subst P (sym e.1) a.0
  | inr n ↦ member_is P q xs (subst (λ (b : Bool). (b || list_any (nat_eq q) xs) ≡ true) n.0 m) a.1
]

-- different states that all stand in a list are at most as many as its elements
pub few : (xs states : List ℕ) → IsDistinct nat_eq xs → AllByRecursion (λ q. Contains states q) xs → length xs ≤ length states
few xs states d a = length-le_from_is_member nat_eq_equiv xs states d (λ q m. list_any-from_Contains nat_eq_equiv q states (member_is (λ q. Contains states q) q xs m a))

-- what is true of each operation that stands in a list
pub each_of : (P : ℕ → Type 0) (xs : List ℕ) → ((o : ℕ) → 1 ≤ times o xs → P o) → AllByRecursion P xs
each_of P [] h = tt
each_of P (x ∷ xs) h = (h x (times_at x xs), each_of P xs (λ o l. h o (omega (arith, l, times_cons o x xs))))

pub one_le : (z : ℕ) (xs : List ℕ) → 1 ≤ times z xs → (o : ℕ) → one o z ≤ times o xs
one_le z xs l o = elim (same_or z o) [
  | inl e ↦ (let same : times z xs ≡ times o xs = ap (λ (x : ℕ). times x xs) e in omega (arith, l, same, one_of o z e))
  | inr n ↦ omega (arith, one_else o z n)
]

-- the list without one occurrence of the operation
pub record Without (xs : List ℕ) (z : ℕ) (rest : List ℕ) : Type 0 where
  pub same : HaveSame xs (z ∷ rest)
  pub long : length xs ≡ suc (length rest)

pub without : (z : ℕ) (xs : List ℕ) → 1 ≤ times z xs → (rest : List ℕ) × Without xs z rest
without z [] l = absurd (omega (arith, l, times_none z))
without z (x ∷ xs) l = elim (same_or x z) [
  | inl e ↦ (xs, record { same = λ o. ap (λ (y : ℕ). times o (y ∷ xs)) e; long = refl })
  | inr n ↦ (
      let r = without z xs (omega (arith, l, times_cons z x xs, one_else z x n)) in (
        x ∷ r.0,
        record {
          same = λ o. omega (arith, r.1.same o, times_cons o x xs, times_cons o z r.0, times_cons o z (x ∷ r.0), times_cons o x r.0);
          long = omega (arith, r.1.long);
        },
      )
      )
]
