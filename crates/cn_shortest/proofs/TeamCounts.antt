-- How many of the first teams have each size.
use Rattle.std.proofs.Common.{ℕ, zero, suc, ◌≡◌, ◌≢◌, ◌+◌, ◌-◌, ◌<◌, ◌≤◌, inl, inr, true, false, cond, List, [], ◌∷◌, length, map, get_or, refl, sym, ap, ◌∙◌, arith, nat_eq, nat_lt}
use Rattle.std.specs.List.{range_with_len}
use Rattle.std.specs.Prelude.{All, slice_index, sum}
use Rattle.std.proofs.lemmas.Bool.{cases_lt}
use Rattle.std.proofs.lemmas.Bool.Decides.{nat_tests}
use Rattle.std.proofs.lemmas.List.Elements.{All-head, All-tail}
use Rattle.std.proofs.lemmas.List.FromFn.{get_or-map-range_with_len, length-map-range_with_len}
use Rattle.cn_stocks.specs.Words.{times}
use Rattle.cn_stocks.proofs.Times.{one, one_else, one_of, same_or, times_cons}
use Rattle.cn_tree_costs.specs.Cost.{total}
use Rattle.cn_tree_costs.specs.Sizes.{block, team_size}
use Rattle.cn_tree_costs.proofs.Numbers.{block_out, sum_cons, total_first, total_same}

-- ---- sums of the first values
total_place : (P Q : ℕ → ℕ) (u k : ℕ) → u < k → ((g : ℕ) → g ≢ u → P g ≡ Q g) → total P k + Q u ≡ total Q k + P u
total_place P Q u zero l same = absurd (omega (arith, l))
total_place P Q u (suc k) l same = elim (same_or k u) [
  | inl e ↦ omega (arith, total_same P Q k (λ g m. same g (λ f. omega (arith, f, m, e))), ap P e, ap Q e)
  | inr n ↦ omega (arith, total_place P Q u k (omega (arith, l, n)) same, same k n)
]

-- of which two are others
pub total_two : (P Q : ℕ → ℕ) (u v k : ℕ) → u < k → v < k → u ≢ v → ((g : ℕ) → g ≢ u → g ≢ v → P g ≡ Q g) → total P k + (Q u + Q v) ≡ total Q k + (P u + P v)
total_two P Q u v k lu lv ne same =
    let first = total_place P R u k lu (λ g n. sym (other g n)) in
    let second = total_place R Q v k lv between in
    omega (arith, first, second, here, other v (λ e. ne (sym e)))
  where
    R : ℕ → ℕ
    R g = cond (nat_eq g u) (Q g) (P g)

    here : R u ≡ Q u
    here = (let y : nat_eq u u ≡ true = grind (arith, nat_tests) in ap (λ b. cond b (Q u) (P u)) y)

    other : (g : ℕ) → g ≢ u → R g ≡ P g
    other g n = (let y : nat_eq g u ≡ false = grind (arith, nat_tests) in ap (λ b. cond b (Q g) (P g)) y)

    between : (g : ℕ) → g ≢ v → R g ≡ Q g
    between g n = elim (same_or g u) [
      | inl e ↦ ap R e ∙ (here ∙ ap Q (sym e))
      | inr m ↦ other g m ∙ same g m n
    ]

total_none : (P : ℕ → ℕ) (k : ℕ) → ((g : ℕ) → P g ≡ 0) → total P k ≡ 0
total_none P zero none = refl
total_none P (suc k) none = omega (arith, total_none P k none, none k)

-- ---- sizes of teams
pub size_same : (f h : ℕ → ℕ) (n g : ℕ) → ((p : ℕ) → p < n → f p ≡ h p) → team_size f n g ≡ team_size h n g
size_same f h zero g same = refl
size_same f h (suc n) g same = omega (arith, size_same f h n g (λ p l. same p (omega (arith, l))), ap (one g) (same n (omega arith)))

-- the first processes of a block are its team
size_low : (m : ℕ) (sizes : List ℕ) (p : ℕ) → p ≤ m → team_size (block (m ∷ sizes)) p 0 ≡ p
size_low m sizes zero l = refl
size_low m sizes (suc p) l =
    let y : nat_lt p m ≡ true = grind (arith, nat_tests) in
    omega (arith, size_low m sizes p (omega (arith, l)), one_of 0 (block (m ∷ sizes) p) (ap (λ b. cond b 0 (suc (block sizes (p - m)))) y))

no_later : (m : ℕ) (sizes : List ℕ) (p j : ℕ) → p ≤ m → team_size (block (m ∷ sizes)) p (suc j) ≡ 0
no_later m sizes zero j l = refl
no_later m sizes (suc p) j l =
    let y : nat_lt p m ≡ true = grind (arith, nat_tests) in
    let e : block (m ∷ sizes) p ≡ 0 = ap (λ b. cond b 0 (suc (block sizes (p - m)))) y in
    omega (arith, no_later m sizes p j (omega (arith, l)), one_else (suc j) (block (m ∷ sizes) p) (λ f. omega (arith, f, e)))

size_first : (m : ℕ) (sizes : List ℕ) (n : ℕ) → m ≤ n → team_size (block (m ∷ sizes)) n 0 ≡ m
size_first m sizes zero l = omega (arith, l)
size_first m sizes (suc n) l = elim (cases_lt n m) [
  | inl u ↦ (let e : suc n ≡ m = omega (arith, u, l) in size_low m sizes (suc n) (omega (arith, u)) ∙ e)
  | inr u ↦ omega (arith, size_first m sizes n (omega (arith, u)), one_else 0 (block (m ∷ sizes) n) (λ f. omega (arith, f, block_out m n sizes (omega (arith, u)))))
]

one_later : (j x y : ℕ) → x ≡ suc y → one (suc j) x ≡ one j y
one_later j x y e = elim (same_or y j) [
  | inl f ↦ one_of (suc j) x (e ∙ ap suc f) ∙ sym (one_of j y f)
  | inr f ↦ one_else (suc j) x (λ k. f (omega (arith, k, e))) ∙ sym (one_else j y f)
]

size_later : (m : ℕ) (sizes : List ℕ) (n j : ℕ) → m ≤ n → team_size (block (m ∷ sizes)) n (suc j) ≡ team_size (block sizes) (n - m) j
size_later m sizes zero j l = (let e : 0 - m ≡ 0 = omega arith in sym (ap (λ i. team_size (block sizes) i j) e))
size_later m sizes (suc n) j l = elim (cases_lt n m) [
  | inl u ↦ (let e : suc n - m ≡ 0 = omega (arith, u) in no_later m sizes (suc n) j (omega (arith, u)) ∙ sym (ap (λ i. team_size (block sizes) i j) e))
  | inr u ↦ (
      let e : suc n - m ≡ suc (n - m) = omega (arith, u) in
      let more : team_size (block (m ∷ sizes)) (suc n) (suc j) ≡ team_size (block sizes) (suc (n - m)) j = omega (arith, size_later m sizes n j (omega (arith, u)), one_later j (block (m ∷ sizes) n) (block sizes (n - m)) (block_out m n sizes (omega (arith, u)))) in
      more ∙ sym (ap (λ i. team_size (block sizes) i j) e)
      )
]

pub block_size : (sizes : List ℕ) (n j : ℕ) → sum sizes ≡ n → team_size (block sizes) n j ≡ get_or sizes j 0
block_size [] n j e = ap (λ i. team_size (block []) i j) (sym e)
block_size (m ∷ sizes) n zero e = size_first m sizes n (omega (arith, e, sum_cons m sizes))
block_size (m ∷ sizes) n (suc j) e =
    size_later m sizes n j (omega (arith, e, sum_cons m sizes)) ∙ block_size sizes (n - m) j (omega (arith, e, sum_cons m sizes))

-- the number of a team is not above that of its process
pub block_low : (sizes : List ℕ) (p : ℕ) → All (λ m. 1 ≤ m) sizes → block sizes p ≤ p
block_low [] p each = omega arith
block_low (m ∷ sizes) p each = elim (cases_lt p m) [
  | inl l ↦ (let y : nat_lt p m ≡ true = grind (arith, nat_tests) in omega (arith, ap (λ b. cond b 0 (suc (block sizes (p - m)))) y))
  | inr l ↦ omega (arith, l, block_out m p sizes (omega (arith, l)), block_low sizes (p - m) (All-tail (λ x. 1 ≤ x) m sizes each), All-head (λ x. 1 ≤ x) m sizes each)
]

-- the first process of the second team
pub block_second : (m x : ℕ) (sizes : List ℕ) → 1 ≤ m → 1 ≤ x → block (m ∷ (x ∷ sizes)) 0 ≢ block (m ∷ (x ∷ sizes)) m
block_second m x sizes lm lx e =
    let y : nat_lt 0 m ≡ true = grind (arith, nat_tests) in
    omega (arith, e, ap (λ b. cond b 0 (suc (block (x ∷ sizes) (0 - m)))) y, block_out m m (x ∷ sizes) (omega arith))

-- ---- how many teams have a size
abbrev pub number : ℕ → ℕ → (ℕ → ℕ) → ℕ → ℕ
number n k team x = total (λ g. one x (team_size team n g)) k

-- no team is empty
abbrev pub kinds : ℕ → ℕ → (ℕ → ℕ) → ℕ → ℕ
kinds n k team zero = 0
kinds n k team (suc x) = number n k team (suc x)

abbrev pub counts_of : ℕ → ℕ → (ℕ → ℕ) → List ℕ
counts_of n k team = map (kinds n k team) (range_with_len 0 9)

pub counts_long : (n k : ℕ) (team : ℕ → ℕ) → length (counts_of n k team) ≡ 9
counts_long n k team = length-map-range_with_len (kinds n k team) 0 9

pub counts_at : (n k : ℕ) (team : ℕ → ℕ) (x : ℕ) → x ≤ 8 → slice_index (counts_of n k team) x ≡ kinds n k team x
counts_at n k team x l = get_or-map-range_with_len (kinds n k team) 0 9 x x 0 (omega (arith, l)) (omega arith)

-- those of a list of sizes
pub number_of_list : (sizes : List ℕ) (k x : ℕ) → length sizes ≤ k → total (λ g. one (suc x) (get_or sizes g 0)) k ≡ times (suc x) sizes
number_of_list [] k x l = total_none (λ g. one (suc x) (get_or [] g 0)) k (λ g. one_else (suc x) 0 (λ e. omega (arith, e)))
number_of_list (m ∷ sizes) zero x l = absurd (omega (arith, l))
number_of_list (m ∷ sizes) (suc k) x l =
    omega (arith, total_first (λ g. one (suc x) (get_or (m ∷ sizes) g 0)) k, number_of_list sizes k x (omega (arith, l)), times_cons (suc x) m sizes)
