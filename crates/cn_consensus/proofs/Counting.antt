-- Lemmas of counting: what holds below a number, and how often processes occur in a schedule.
use Rattle.std.proofs.Common.{◌≡◌, ◌≢◌, ℕ, zero, suc, ◌+◌, ◌*◌, ◌<◌, ◌≤◌, max, ◌⊎◌, inl, inr, List}
use Rattle.std.proofs.Common.{[], ◌∷◌, ◌++◌, length, replicate, refl, sym, subst, arith, Bool, true}
use Rattle.std.proofs.Common.{false, cond, nat_eq}
use Rattle.std.proofs.lemmas.List.Sums.{sum_by-append, sum_by-cons}
use Rattle.std.proofs.lemmas.Bool.{eq-eqb, ne_eqb, cases_eq, cases_lt}
use Rattle.cn_consensus.specs.Consensus.{IsSchedule, occurrences}

-- R, or Q of each number below n
pub first_or_all : (n : ℕ) (Q : ℕ → Type 0) (R : Type 0) → ((p : ℕ) → p < n → Q p ⊎ R)
    → ((p : ℕ) → p < n → Q p) ⊎ R
first_or_all zero Q R h = inl (λ p l. absurd (omega arith))
first_or_all (suc n) Q R h = elim (h n (omega arith)) [
  | inl at ↦ elim (first_or_all n Q R (λ p l. h p (omega arith))) [
    | inl below ↦ inl (λ p l. elim (cases_eq p n)
        [ inl e ↦ subst Q (sym e) at | inr d ↦ below p (omega arith) ])
    | inr r ↦ inr r
  ]
  | inr r ↦ inr r
]

-- what holds of some number for each p below n, and of each greater one, holds of one number for
-- all
pub one_for_all : (n : ℕ) (Q : ℕ → ℕ → Type 0) → ((p b c : ℕ) → b ≤ c → Q p b → Q p c)
    → ((p : ℕ) → p < n → (b : ℕ) × Q p b) → (b : ℕ) × ((p : ℕ) → p < n → Q p b)
one_for_all zero Q up each = (0, λ p l. absurd (omega arith))
one_for_all (suc n) Q up each =
    let below = one_for_all n Q up (λ p l. each p (omega arith)) in
    let at = each n (omega arith) in (
      max below.0 at.0,
      λ p l. elim (cases_eq p n) [
        | inl e ↦ subst (λ (q : ℕ). Q q (max below.0 at.0)) (sym e)
            (up n at.0 (max below.0 at.0) (omega arith) at.1)
        | inr d ↦ up p below.0 (max below.0 at.0) (omega arith) (below.1 p (omega arith))
      ],
    )

-- ---- schedules

pub schedule-append : (n : ℕ) (s u : List ℕ) → IsSchedule n s → IsSchedule n u
    → IsSchedule n (s ++ u)
schedule-append n [] u h k = k
schedule-append n (p ∷ s) u h k = (h.0, schedule-append n s u h.1 k)

pub schedule-alone : (n p steps : ℕ) → p < n → IsSchedule n (replicate steps p)
schedule-alone n p zero l = tt
schedule-alone n p (suc steps) l = (l, schedule-alone n p steps l)

-- ---- occurrences

abbrev pub hit : ℕ → ℕ → ℕ
hit q p = cond (nat_eq q p) 1 0

pub occurrences-cons : (q : ℕ) (s : List ℕ) (p : ℕ)
    → occurrences (q ∷ s) p ≡ hit q p + occurrences s p
occurrences-cons q s p = sum_by-cons (λ x. cond (nat_eq x p) 1 0) q s

pub occurrences-append : (s u : List ℕ) (p : ℕ)
    → occurrences (s ++ u) p ≡ occurrences s p + occurrences u p
occurrences-append s u p = sum_by-append (λ x. cond (nat_eq x p) 1 0) s u

pub occurrences-alone : (steps p : ℕ) → occurrences (replicate steps p) p ≡ steps
occurrences-alone zero p = refl
occurrences-alone (suc steps) p =
    let one : hit p p ≡ 1 = rw (eq-eqb p p refl) refl in
    omega (arith, occurrences-alone steps p, occurrences-cons p (replicate steps p) p)

pub hit_few : (q p : ℕ) → hit q p ≤ 1
hit_few q p = by_test (nat_eq q p)
  where
    by_test : (b : Bool) → cond b 1 0 ≤ 1
    by_test true = omega arith
    by_test false = omega arith

pub occurrences_other : (q : ℕ) (s : List ℕ) (p : ℕ) → q ≢ p
    → occurrences (q ∷ s) p ≡ occurrences s p
occurrences_other q s p d = let none : hit q p ≡ 0 =
    rw (ne_eqb q p d) refl in omega (arith, occurrences-cons q s p, none)

pub occurrences_own : (p : ℕ) → occurrences (p ∷ []) p ≡ 1
occurrences_own p = rw (eq-eqb p p refl) refl

-- the sum of f below n
abbrev pub total : (ℕ → ℕ) → ℕ → ℕ
total f zero = 0
total f (suc n) = total f n + f n

total-hit_past : (q n : ℕ) → n ≤ q → total (hit q) n ≡ 0
total-hit_past q zero l = refl
total-hit_past q (suc n) l = let none : hit q n ≡ 0 =
    rw (ne_eqb q n (λ e. absurd (omega arith))) refl in omega (
      arith,
      total-hit_past q n (omega arith),
      none,
    )

total-hit : (q n : ℕ) → q < n → total (hit q) n ≡ 1
total-hit q zero l = absurd (omega arith)
total-hit q (suc n) l = elim (cases_eq q n) [
  | inl e ↦ (let one : hit q n ≡ 1 = rw (eq-eqb q n e) refl in omega (
    arith,
    total-hit_past q n (omega arith),
    one,
  ))
  | inr d ↦ (let none : hit q n ≡ 0 = rw (ne_eqb q n d) refl in omega (
    arith,
    total-hit q n (omega arith),
    none,
  ))
]

total-plus : (f g : ℕ → ℕ) (n : ℕ) → total (λ p. f p + g p) n ≡ total f n + total g n
total-plus f g zero = refl
total-plus f g (suc n) = omega (arith, total-plus f g n)

total-alike : (f g : ℕ → ℕ) (n : ℕ) → ((p : ℕ) → f p ≡ g p) → total f n ≡ total g n
total-alike f g zero h = refl
total-alike f g (suc n) h = omega (arith, total-alike f g n h, h n)

total-none : (n : ℕ) → total (λ p. 0) n ≡ 0
total-none zero = refl
total-none (suc n) = omega (arith, total-none n)

length-total : (n : ℕ) (s : List ℕ) → IsSchedule n s → length s ≡ total (occurrences s) n
length-total n [] h = sym (total-none n)
length-total n (q ∷ s) h =
    let e : total (occurrences (q ∷ s)) n ≡ total (λ p. hit q p + occurrences s p) n =
    total-alike _ _ n (occurrences-cons q s) in
    omega (arith, length-total n s h.1, total-plus (hit q) (occurrences s) n, total-hit q n h.0)

total-most : (f g : ℕ → ℕ) (n : ℕ) → ((p : ℕ) → f p ≤ g p) → total f n ≤ total g n
total-most f g zero h = omega arith
total-most f g (suc n) h = omega (arith, total-most f g n h, h n)

-- a sum falls if one of its parts falls, and none grows
pub total_falls : (f g : ℕ → ℕ) (p n : ℕ) → p < n → ((q : ℕ) → f q ≤ g q) → f p < g p
    → total f n < total g n
total_falls f g p zero l h less = absurd (omega arith)
total_falls f g p (suc n) l h less = elim (cases_eq p n) [
  | inl e ↦ omega (arith, total-most f g n h, subst (λ (q : ℕ). f q < g q) e less)
  | inr d ↦ omega (arith, total_falls f g p n (omega arith) h less, h n)
]

total-below : (f : ℕ → ℕ) (b n : ℕ) → ((p : ℕ) → p < n → f p < b) → total f n + n ≤ n * b
total-below f b zero h = omega arith
total-below f b (suc n) h = omega (
  arith,
  total-below f b n (λ p l. h p (omega arith)),
  h n (omega arith),
)

-- some process occurs b times in a schedule of n b steps
pub frequent : (n b : ℕ) (s : List ℕ) → IsSchedule n s → 1 ≤ n → n * b ≤ length s
    → (p : ℕ) × (p < n) × (b ≤ occurrences s p)
frequent n b s h one long = elim (first_or_all n (λ p.
    occurrences s p < b) ((p : ℕ) × (p < n) × (b ≤ occurrences s p)) each) [
      | inl rare ↦ absurd (omega (arith, total-below (occurrences s) b n rare, length-total n s h))
      | inr found ↦ found
    ]
  where
    each : (p : ℕ) → p < n → (occurrences s p < b) ⊎ ((p : ℕ) × (p < n) × (b ≤ occurrences s p))
    each p l = elim (cases_lt (occurrences s p) b) [
      | inl few ↦ inl few
      | inr many ↦ inr (
        p,
        l,
        many,
      )
    ]
