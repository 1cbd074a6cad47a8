-- Sums, greatest values, and sizes of teams.
use Rattle.std.proofs.Common.{ℕ, zero, suc, ◌≡◌, ◌+◌, ◌-◌, ◌*◌, ◌<◌, ◌≤◌, max, List, [], ◌∷◌, length, refl, ◌∙◌, arith, nat_lt, suc-mul, inl, inr, true, false, Bool}
use Rattle.std.specs.Prelude.{All, sum}
use Rattle.std.proofs.lemmas.Bool.{cases_eq}
use Rattle.std.proofs.lemmas.Bool.Decides.{nat_tests}
use Rattle.std.proofs.lemmas.List.Elements.{All-cons, All-head, All-nil, All-tail, All-weaker}
use Rattle.std.proofs.lemmas.List.Sums.{sum_by-cons}
use Rattle.cn_meetings.specs.Meeting.{Sight, looks}
use Rattle.cn_trees.specs.Tree.{Teams, members}
use Rattle.cn_trees.specs.Tree.Teams.{Alone, Last, Meet}
use Rattle.cn_tree_costs.specs.Cost.{greatest, total}
use Rattle.cn_tree_costs.specs.Sizes.{IsDivision, block, price, sizes_of}

pub sum_cons : (m : ℕ) (sizes : List ℕ) → sum (m ∷ sizes) ≡ m + sum sizes
sum_cons m sizes = sum_by-cons (λ x. x) m sizes

pub sizes_sum : (s : Teams) → sum (sizes_of s) ≡ members s
sizes_sum Last = refl
sizes_sum (Alone r) = omega (arith, sum_cons 1 (sizes_of r), sizes_sum r)
sizes_sum (Meet s r) = omega (arith, sum_cons (members s) (sizes_of r), sizes_sum r)

pub block_in : (m p : ℕ) (sizes : List ℕ) → p < m → block (m ∷ sizes) p ≡ 0
block_in m p sizes lt = let e : nat_lt p m ≡ true = grind (arith, nat_tests) in rw e refl

pub block_out : (m p : ℕ) (sizes : List ℕ) → m ≤ p → block (m ∷ sizes) p ≡ suc (block sizes (p - m))
block_out m p sizes le = let e : nat_lt p m ≡ false = grind (arith, nat_tests) in rw e refl

-- ---- sums of the first values
pub total_first : (f : ℕ → ℕ) (n : ℕ) → total f (suc n) ≡ f 0 + total (λ i. f (suc i)) n
total_first f zero = omega arith
total_first f (suc n) = omega (arith, total_first f n)

pub total_append : (f : ℕ → ℕ) (a b : ℕ) → total f (a + b) ≡ total f a + total (λ i. f (a + i)) b
total_append f a zero = let e : a + zero ≡ a = omega arith in rw e (omega arith)
total_append f a (suc b) = let e : a + suc b ≡ suc (a + b) = omega arith in rw e (omega (arith, total_append f a b))

pub total_same : (f g : ℕ → ℕ) (n : ℕ) → ((i : ℕ) → i < n → f i ≡ g i) → total f n ≡ total g n
total_same f g zero same = refl
total_same f g (suc n) same = omega (arith, total_same f g n (λ i lt. same i (omega arith)), same n (omega arith))

pub total_plus : (f : ℕ → ℕ) (c n : ℕ) → total (λ i. f i + c) n ≡ total f n + n * c
total_plus f c zero = omega arith
total_plus f c (suc n) = omega (arith, total_plus f c n, suc-mul n c)

pub greatest_within : (f : ℕ → ℕ) (n b : ℕ) → ((i : ℕ) → i < n → f i ≤ b) → greatest f n ≤ b
greatest_within f zero b each = omega arith
greatest_within f (suc n) b each = omega (arith, greatest_within f n b (λ i lt. each i (omega arith)), each n (omega arith))

pub greatest_from : (f : ℕ → ℕ) (n i : ℕ) → i < n → f i ≤ greatest f n
greatest_from f zero i lt = absurd (omega arith)
greatest_from f (suc n) i lt = elim (cases_eq i n) [
  | inl e ↦ rw e (omega arith)
  | inr ne ↦ omega (arith, greatest_from f n i (omega arith))
]

pub greatest_same : (f g : ℕ → ℕ) (n : ℕ) → ((i : ℕ) → i < n → f i ≡ g i) → greatest f n ≡ greatest g n
greatest_same f g zero same = refl
greatest_same f g (suc n) same = omega (arith, greatest_same f g n (λ i lt. same i (omega arith)), same n (omega arith))

pub greatest_append : (f : ℕ → ℕ) (a b : ℕ) → greatest f (a + b) ≡ max (greatest f a) (greatest (λ i. f (a + i)) b)
greatest_append f a zero = let e : a + zero ≡ a = omega arith in rw e (omega arith)
greatest_append f a (suc b) = let e : a + suc b ≡ suc (a + b) = omega arith in rw e (omega (arith, greatest_append f a b))

pub greatest_plus : (f : ℕ → ℕ) (c n : ℕ) → 1 ≤ n → greatest (λ i. f i + c) n ≡ greatest f n + c
greatest_plus f c zero some = absurd (omega arith)
greatest_plus f c (suc n) some = elim (cases_eq n 0) [
  | inl e ↦ rw e (omega arith)
  | inr ne ↦ omega (arith, greatest_plus f c n (omega arith))
]

-- ---- sizes of several teams
pub long_sum : (sizes : List ℕ) → All (λ m. 1 ≤ m) sizes → length sizes ≤ sum sizes
long_sum [] each = omega arith
long_sum (a ∷ sizes) each =
    let h : 1 ≤ a = All-head (λ m. 1 ≤ m) a sizes each in
    let k = long_sum sizes (All-tail (λ m. 1 ≤ m) a sizes each) in
    omega (arith, sum_cons a sizes)

each_short : (sizes : List ℕ) → All (λ m. 1 ≤ m) sizes → All (λ m. (1 ≤ m) × (m + length sizes ≤ sum sizes + 1)) sizes
each_short [] each = All-nil (λ m. (1 ≤ m) × (m + length {A = ℕ} [] ≤ sum [] + 1))
each_short (a ∷ sizes) each =
    let h : 1 ≤ a = All-head (λ m. 1 ≤ m) a sizes each in
    let rest = All-tail (λ m. 1 ≤ m) a sizes each in
    let l = long_sum sizes rest in
    let s = sum_cons a sizes in
    All-cons (λ m. (1 ≤ m) × (m + length (a ∷ sizes) ≤ sum (a ∷ sizes) + 1)) a sizes (h, omega arith)
    (All-weaker (λ m. (1 ≤ m) × (m + length sizes ≤ sum sizes + 1)) (λ m. (1 ≤ m) × (m + length (a ∷ sizes) ≤ sum (a ∷ sizes) + 1)) (λ m k. (k.0, (let z = k.1 in omega arith))) sizes (each_short sizes rest))

-- each of several teams has fewer processes
pub fewer_each : (n : ℕ) (sizes : List ℕ) → IsDivision n sizes → All (λ m. (1 ≤ m) × (m < n)) sizes
fewer_each n sizes division =
    let w = division.whole in let l = division.several in
    All-weaker (λ m. (1 ≤ m) × (m + length sizes ≤ sum sizes + 1)) (λ m. (1 ≤ m) × (m < n)) (λ m k. (k.0, (let z = k.1 in omega arith))) sizes (each_short sizes division.inhabited)

pub two_or_more : (n : ℕ) (sizes : List ℕ) → IsDivision n sizes → 2 ≤ n
two_or_more n sizes division = let w = division.whole in let l = division.several in let h = long_sum sizes division.inhabited in omega arith

-- ---- prices
pub price_few : (k : Sight) → (3 ≤ price k) × (price k ≤ 4)
price_few k = go (looks k) refl
  where
    go : (b : Bool) → looks k ≡ b → (3 ≤ price k) × (price k ≤ 4)
    go true e = rw e (omega arith, omega arith)
    go false e = rw e (omega arith, omega arith)

total_constant : (c n : ℕ) → total (λ i. c) n ≡ n * c
total_constant c zero = omega arith
total_constant c (suc n) = omega (arith, total_constant c n, suc-mul n c)

pub total_each : (f : ℕ → ℕ) (c n : ℕ) → ((i : ℕ) → i < n → f i ≡ c) → total f n ≡ n * c
total_each f c n each = total_same f (λ i. c) n each ∙ total_constant c n
