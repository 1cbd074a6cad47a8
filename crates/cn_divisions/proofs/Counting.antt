-- How many elements of a list are so, counted in several ways.
use Rattle.std.proofs.Common.{ℕ, zero, suc, ◌≡◌, ◌≢◌, ◌+◌, ◌*◌, ◌<◌, ◌≤◌, inl, inr, Bool, true, false, cond, List, [], ◌∷◌, ◌++◌, length, length-append, get_or, take, drop, replicate, refl, sym, ap, ◌∙◌, subst, arith, nat_eq, nat_lt}
use Rattle.std.specs.List.{count_by}
use Rattle.std.proofs.Math.Seq.{take-length}
use Rattle.std.proofs.lemmas.Bool.{eqb-true, ne_eqb}
use Rattle.std.proofs.lemmas.Bool.Decides.{nat_tests}
use Rattle.std.proofs.lemmas.List.{length-replicate, take-append-drop}
use Rattle.std.proofs.lemmas.List.Sums.{count_by-le-length, count_by_more_no, count_by_more_yes, sum_by-append, sum_by-cons}
use Rattle.cn_choice.proofs.ListLemmas.Members.{IsIn, IsIn-append_cases, Pairs, Pairs-append, each_from}
use Rattle.cn_stocks.specs.Words.{times}
use Rattle.cn_stocks.proofs.StockLemmas.{before_or_behind}
use Rattle.cn_stocks.proofs.Times.{one, one_else, one_of, same_or, times_append, times_cons, times_none}

-- 1 or 0
abbrev pub as_one : Bool → ℕ
as_one b = cond b 1 0

pub count_cons : {X : Type 0} (P : X → Bool) (x : X) (xs : List X) → count_by P (x ∷ xs) ≡ as_one (P x) + count_by P xs
count_cons P x xs = sum_by-cons (λ y. as_one (P y)) x xs

pub count_append : {X : Type 0} (P : X → Bool) (xs ys : List X) → count_by P (xs ++ ys) ≡ count_by P xs + count_by P ys
count_append P xs ys = sum_by-append (λ y. as_one (P y)) xs ys

-- one more of the list
pub more_times : (o : ℕ) (xs : List ℕ) (i : ℕ) → i < length xs → times o (take (i + 1) xs) ≡ times o (take i xs) + one o (get_or xs i 0)
more_times o xs i l = go (nat_eq (get_or xs i 0) o) refl
  where
    go : (b : Bool) → nat_eq (get_or xs i 0) o ≡ b → times o (take (i + 1) xs) ≡ times o (take i xs) + one o (get_or xs i 0)
    go true e = rw e (count_by_more_yes (λ x. nat_eq x o) xs i 0 l e)
    go false e = omega (arith, count_by_more_no (λ x. nat_eq x o) xs i 0 l e, ap as_one e)

pub times_long : (o : ℕ) (xs : List ℕ) → times o xs ≤ length xs
times_long o xs = count_by-le-length (λ x. nat_eq x o) xs

pub times_taken : (o i : ℕ) (xs : List ℕ) → times o (take i xs) ≤ times o xs
times_taken o i xs = omega (arith, times_append o (take i xs) (drop i xs), ap (times o) (take-append-drop i xs))

pub times_replicate : (o k x : ℕ) → x ≡ o → times o (replicate k x) ≡ k
times_replicate o zero x e = times_none o
times_replicate o (suc k) x e = omega (arith, times_cons o x (replicate k x), one_of o x e, times_replicate o k x e)

pub times_replicate_else : (o k x : ℕ) → x ≢ o → times o (replicate k x) ≡ 0
times_replicate_else o zero x n = times_none o
times_replicate_else o (suc k) x n = omega (arith, times_cons o x (replicate k x), one_else o x n, times_replicate_else o k x n)

pub in_replicate : (x k y : ℕ) → IsIn y (replicate k x) → x ≡ y
in_replicate x zero y i = absurd i
in_replicate x (suc k) y (inl e) = e
in_replicate x (suc k) y (inr i) = in_replicate x k y i

-- how many elements are above k
abbrev pub above : ℕ → List ℕ → ℕ
above k xs = count_by (λ x. nat_lt k x) xs

-- the elements above k are those above k + 1 and those that are k + 1
pub above_step : (k : ℕ) (xs : List ℕ) → above k xs ≡ above (k + 1) xs + times (k + 1) xs
above_step k [] = refl
above_step k (x ∷ xs) =
    omega (arith, count_cons (λ y. nat_lt k y) x xs, count_cons (λ y. nat_lt (k + 1) y) x xs, times_cons (k + 1) x xs, above_step k xs, here)
  where
    here : as_one (nat_lt k x) ≡ as_one (nat_lt (k + 1) x) + one (k + 1) x
    here = elim (before_or_behind x (k + 1)) [
      | inl l ↦ (let a : nat_lt k x ≡ false = grind (arith, nat_tests) in let b : nat_lt (k + 1) x ≡ false = grind (arith, nat_tests) in
          omega (arith, ap as_one a, ap as_one b, one_else (k + 1) x (λ e. omega (arith, e, l))))
      | inr l ↦ elim (same_or x (k + 1)) [
        | inl e ↦ (let a : nat_lt k x ≡ true = grind (arith, nat_tests) in let b : nat_lt (k + 1) x ≡ false = grind (arith, nat_tests) in
            omega (arith, ap as_one a, ap as_one b, one_of (k + 1) x e))
        | inr n ↦ (let m : k + 1 < x = omega (arith, l, n) in let a : nat_lt k x ≡ true = grind (arith, nat_tests) in let b : nat_lt (k + 1) x ≡ true = grind (arith, nat_tests) in
            omega (arith, ap as_one a, ap as_one b, one_else (k + 1) x n))
      ]
    ]

pub none_above : (k : ℕ) (xs : List ℕ) → ((x : ℕ) → IsIn x xs → x ≤ k) → above k xs ≡ 0
none_above k [] small = refl
none_above k (x ∷ xs) small =
    let l = small x (inl refl) in
    let a : nat_lt k x ≡ false = grind (arith, nat_tests) in
    omega (arith, count_cons (λ y. nat_lt k y) x xs, ap as_one a, none_above k xs (λ y i. small y (inr i)))

pub none_times : (o : ℕ) (xs : List ℕ) → ((x : ℕ) → IsIn x xs → x ≢ o) → times o xs ≡ 0
none_times o [] other = times_none o
none_times o (x ∷ xs) other = omega (arith, times_cons o x xs, one_else o x (other x (inl refl)), none_times o xs (λ y i. other y (inr i)))

pub in_times : (x : ℕ) (xs : List ℕ) → IsIn x xs → 1 ≤ times x xs
in_times x [] i = absurd i
in_times x (y ∷ xs) (inl e) = omega (arith, times_cons x y xs, one_of x y e)
in_times x (y ∷ xs) (inr i) = omega (arith, times_cons x y xs, in_times x xs i)

-- ---- sums over the numbers below k
abbrev pub total : (ℕ → ℕ) → ℕ → ℕ
total f zero = 0
total f (suc k) = total f k + f k

total_none : (P : ℕ → Bool) (k : ℕ) → total (λ g. cond (P g) (times g []) 0) k ≡ 0
total_none P zero = refl
total_none P (suc k) = omega (arith, total_none P k, here (P k))
  where
    here : (b : Bool) → cond b (times k []) 0 ≡ 0
    here true = refl
    here false = refl

split_cond : (b : Bool) (x y : ℕ) → cond b (x + y) 0 ≡ cond b x 0 + cond b y 0
split_cond true x y = refl
split_cond false x y = refl

total_later : (P : ℕ → Bool) (x k : ℕ) (xs : List ℕ) → k ≤ x → total (λ g. cond (P g) (times g (x ∷ xs)) 0) k ≡ total (λ g. cond (P g) (times g xs) 0) k
total_later P x zero xs l = refl
total_later P x (suc k) xs l =
    let e : times k (x ∷ xs) ≡ times k xs = omega (arith, times_cons k x xs, one_else k x (λ u. omega (arith, u, l))) in
    omega (arith, total_later P x k xs (omega (arith, l)), ap (λ (y : ℕ). cond (P k) y 0) e)

total_cons : (P : ℕ → Bool) (x k : ℕ) (xs : List ℕ) → x < k → total (λ g. cond (P g) (times g (x ∷ xs)) 0) k ≡ as_one (P x) + total (λ g. cond (P g) (times g xs) 0) k
total_cons P x zero xs l = absurd (omega (arith, l))
total_cons P x (suc k) xs l = elim (same_or x k) [
  | inl e ↦ (
      let a : times k (x ∷ xs) ≡ 1 + times k xs = omega (arith, times_cons k x xs, one_of k x e) in
      let b : as_one (P k) ≡ as_one (P x) = ap (λ (y : ℕ). as_one (P y)) (sym e) in
      omega (arith, total_later P x k xs (omega (arith, e)), ap (λ (y : ℕ). cond (P k) y 0) a, split_cond (P k) 1 (times k xs), b)
      )
  | inr n ↦ (
      let a : times k (x ∷ xs) ≡ times k xs = omega (arith, times_cons k x xs, one_else k x n) in
      omega (arith, total_cons P x k xs (omega (arith, l, n)), ap (λ (y : ℕ). cond (P k) y 0) a)
      )
]

-- by element, and by value
pub by_value : (P : ℕ → Bool) (k : ℕ) (xs : List ℕ) → ((x : ℕ) → IsIn x xs → x < k) → count_by P xs ≡ total (λ g. cond (P g) (times g xs) 0) k
by_value P k [] small = sym (total_none P k)
by_value P k (x ∷ xs) small = omega (arith, count_cons P x xs, by_value P k xs (λ y i. small y (inr i)), total_cons P x k xs (small x (inl refl)))

-- values that stand as often as s
as_often : (s k : ℕ) (f : ℕ → ℕ) → total (λ g. cond (nat_eq (f g) s) (f g) 0) k ≡ s * total (λ g. one s (f g)) k
as_often s zero f = omega arith
as_often s (suc k) f = go (nat_eq (f k) s) refl (as_often s k f)
  where
    go : (b : Bool) → nat_eq (f k) s ≡ b → total (λ g. cond (nat_eq (f g) s) (f g) 0) k ≡ s * total (λ g. one s (f g)) k
        → total (λ g. cond (nat_eq (f g) s) (f g) 0) k + cond (nat_eq (f k) s) (f k) 0 ≡ s * (total (λ g. one s (f g)) k + one s (f k))
    go true e so = (let same : f k ≡ s = eqb-true (f k) s e in rw e (omega (arith, so, same)))
    go false e so = rw e (omega (arith, so))

total_times : (s : ℕ) (counts : List ℕ) (f : ℕ → ℕ) (k : ℕ) → k ≤ length counts → ((g : ℕ) → g < k → get_or counts g 0 ≡ f g) → total (λ g. one s (f g)) k ≡ times s (take k counts)
total_times s counts f zero l is = sym (times_none s)
total_times s counts f (suc k) l is =
    let next : suc k ≡ k + 1 = omega arith in
    omega (arith, total_times s counts f k (omega (arith, l)) (λ g u. is g (omega (arith, u))), more_times s counts k (omega (arith, l)), ap (one s) (is k (omega arith)), ap (λ (n : ℕ). times s (take n counts)) next)

-- s times as often as s is a count, so many elements stand s times
pub counted_twice : (s k : ℕ) (xs counts : List ℕ) → length counts ≡ k → ((x : ℕ) → IsIn x xs → x < k) → ((g : ℕ) → g < k → get_or counts g 0 ≡ times g xs) → s * times s counts ≡ count_by (λ g. nat_eq (times g xs) s) xs
counted_twice s k xs counts long small is =
    let whole : times s (take k counts) ≡ times s counts = ap (times s) (subst (λ (n : ℕ). take n counts ≡ counts) long (take-length counts)) in
    let all : total (λ g. one s (times g xs)) k ≡ times s counts = total_times s counts (λ g. times g xs) k (omega (arith, long)) is ∙ whole in
    ap (λ (n : ℕ). s * n) (sym all) ∙ (sym (as_often s k (λ g. times g xs)) ∙ sym (by_value (λ g. nat_eq (times g xs) s) k xs small))

pub above_long : (k : ℕ) (xs : List ℕ) → above k xs ≤ length xs
above_long k xs = count_by-le-length (λ x. nat_lt k x) xs

-- ---- the sizes above a bound, the greatest first
pub record SizesAbove (k : ℕ) (counts sizes : List ℕ) : Type 0 where
  pub sorted : Pairs (λ (a : ℕ) b. b ≤ a) sizes
  pub low : (x : ℕ) → IsIn x sizes → k < x
  pub high : (s : ℕ) → k < s → times s sizes ≡ times s counts
  pub long : length sizes ≡ above k counts

pub no_sizes : (k : ℕ) (counts : List ℕ) → ((x : ℕ) → IsIn x counts → x ≤ k) → SizesAbove k counts []
no_sizes k counts small = record {
  sorted = tt;
  low = λ x i. absurd i;
  high = λ s l. sym (none_times s counts (λ x i e. let u = small x i in omega (arith, u, e, l)));
  long = sym (none_above k counts small);
}

same_pairs : (k x : ℕ) → Pairs (λ (a : ℕ) b. b ≤ a) (replicate k x)
same_pairs zero x = tt
same_pairs (suc k) x = (each_from (λ y. y ≤ x) (replicate k x) (λ y i. let e = in_replicate x k y i in omega (arith, e)), same_pairs k x)

pub more_sizes : (k : ℕ) (counts sizes : List ℕ) → SizesAbove (k + 1) counts sizes → SizesAbove k counts (sizes ++ replicate (times (k + 1) counts) (k + 1))
more_sizes k counts sizes so = record {
  sorted = Pairs-append (λ (a : ℕ) b. b ≤ a) sizes (replicate (times (k + 1) counts) (k + 1)) so.sorted (same_pairs (times (k + 1) counts) (k + 1)) (λ x y i j. let l = so.low x i in let e = in_replicate (k + 1) (times (k + 1) counts) y j in omega (arith, l, e));
  low = λ x i. elim (IsIn-append_cases x sizes (replicate (times (k + 1) counts) (k + 1)) i) [
    | inl a ↦ (let l = so.low x a in omega (arith, l))
    | inr a ↦ (let e = in_replicate (k + 1) (times (k + 1) counts) x a in omega (arith, e))
  ];
  high = λ s l. elim (same_or (k + 1) s) [
    | inl e ↦ (
        let none : times s sizes ≡ 0 = none_times s sizes (λ x i u. let w = so.low x i in omega (arith, w, u, e)) in
        omega (arith, times_append s sizes (replicate (times (k + 1) counts) (k + 1)), none, times_replicate s (times (k + 1) counts) (k + 1) e, ap (λ (y : ℕ). times y counts) e)
        )
    | inr n ↦ omega (arith, times_append s sizes (replicate (times (k + 1) counts) (k + 1)), so.high s (omega (arith, l, n)), times_replicate_else s (times (k + 1) counts) (k + 1) n)
  ];
  long = omega (arith, length-append sizes (replicate (times (k + 1) counts) (k + 1)), length-replicate (times (k + 1) counts) (k + 1), so.long, above_step k counts);
}

pub count_none : {X : Type 0} (P : X → Bool) (xs : List X) → ((x : X) → IsIn x xs → P x ≡ false) → count_by P xs ≡ 0
count_none P [] none = refl
count_none P (x ∷ xs) none = omega (arith, count_cons P x xs, ap as_one (none x (inl refl)), count_none P xs (λ y i. none y (inr i)))

-- each element stands in the list
pub stands : (xs : List ℕ) → count_by (λ g. nat_eq (times g xs) 0) xs ≡ 0
stands xs = count_none (λ g. nat_eq (times g xs) 0) xs (λ x i. ne_eqb (times x xs) 0 (λ e. omega (arith, e, in_times x xs i)))
