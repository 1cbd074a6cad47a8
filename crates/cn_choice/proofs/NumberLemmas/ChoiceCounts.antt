-- The length of the list of canonical choices.
use Rattle.std.proofs.Common.{◌≡◌, ℕ, zero, suc, ◌+◌, ◌-◌, ◌*◌, ◌/◌, ◌%◌, ◌<◌, ◌≤◌, ◌≢◌, ◌⊎◌, inl, inr, List, [], ◌∷◌, length, map, refl, sym, ap, ◌∙◌, subst, arith, Bool, true, false, cond, ltb, nat_eq, Option, Some, None, replicate}
use Rattle.std.specs.List.{range_with_len, sum_by}
use Rattle.std.proofs.lemmas.Bool.{lt-ltb, le-ltb, eq-eqb, ne_eqb, cases_eq}
use Rattle.std.proofs.lemmas.List.{length-map}
use Rattle.std.proofs.lemmas.List.FromFn.{length-range_with_len}
use Rattle.std.proofs.lemmas.List.Concat.{length-flat_map}
use Rattle.std.proofs.lemmas.List.Sums.{sum_by-cons}
use Rattle.cn_choice.specs.Rising.{rising_lists, rising_after, next_rising}
use Rattle.cn_choice.specs.Canonical.{Choice, second_lists, with_first, with_size, with_state, canonical_choices}
use Rattle.cn_choice.specs.Counting.{rising_count, pairs_in_order, choices_per_state}
use Rattle.cn_choice.proofs.NumberLemmas.Binomials.{rising_count_none, rising_count_of_none, rising_count_wider}
use Rattle.cn_choice.proofs.ChoiceLemmas.ListedChoices.{IsRising, rising_from, after_from}
use Rattle.cn_choice.proofs.ListLemmas.Members.{IsIn}
use Rattle.cn_choice.proofs.ListLemmas.Permutations.{in_range}
use Rattle.cn_choice.proofs.ListLemmas.NextLists.{rising_first, rising_after-next, from_next}

-- ---- sums

pub sum_by_same : {X : Type 0} (f g : X → ℕ) (xs : List X) → ((x : X) → IsIn x xs → f x ≡ g x) → sum_by f xs ≡ sum_by g xs
sum_by_same f g [] e = refl
sum_by_same f g (x ∷ xs) e =
    omega (arith, sum_by-cons f x xs, sum_by-cons g x xs, e x (inl refl), sum_by_same f g xs (λ y i. e y (inr i)))

pub sum_by_constant : {X : Type 0} (f : X → ℕ) (n : ℕ) (xs : List X) → ((x : X) → IsIn x xs → f x ≡ n) → sum_by f xs ≡ length xs * n
sum_by_constant f n [] e = omega arith
sum_by_constant f n (x ∷ xs) e = omega (arith, sum_by-cons f x xs, e x (inl refl), sum_by_constant f n xs (λ y i. e y (inr i)))

pub sum_by_range_more : (f : ℕ → ℕ) (a n : ℕ) → sum_by f (range_with_len a (suc n)) ≡ sum_by f (range_with_len a n) + f (a + n)
sum_by_range_more f a zero = let e : a + 0 ≡ a = omega arith in rw e (omega arith)
sum_by_range_more f a (suc n) =
    let e : a + 1 + n ≡ a + suc n = omega arith in
    let later = sum_by_range_more f (a + 1) n in
    rw (← e) (omega (arith, later, sum_by-cons f a (range_with_len (a + 1) (suc n)), sum_by-cons f a (range_with_len (a + 1) n)))

-- ---- non-decreasing lists

rising_length_from : (k m low w : ℕ) → ((d : ℕ) → d ≤ m → length (rising_lists d m k) ≡ rising_count (m - d) k) → m ≡ low + w
    → sum_by (λ d. length (map (λ ds. d ∷ ds) (rising_lists d m k))) (range_with_len low w) ≡ rising_count w (suc k)
rising_length_from k m low zero shorter e = sym (rising_count_of_none k)
rising_length_from k m low (suc w) shorter e =
    let left : m - low ≡ suc w = omega arith in
    let here : length (map (λ ds. low ∷ ds) (rising_lists low m k)) ≡ rising_count (suc w) k = length-map (rising_lists low m k) (λ ds. low ∷ ds)
    ∙ (shorter low (omega arith) ∙ ap (λ v. rising_count v k) left) in
    let later = rising_length_from k m (low + 1) w shorter (omega arith) in
    omega (arith, here, later, rising_count_wider w k, sum_by-cons (λ d. length (map (λ ds. d ∷ ds) (rising_lists d m k))) low (range_with_len (low + 1) w))

pub rising_length : (k m low : ℕ) → low ≤ m → length (rising_lists low m k) ≡ rising_count (m - low) k
rising_length zero m low l = sym (rising_count_none (m - low))
rising_length (suc k) m low l =
    length-flat_map (λ d. map (λ ds. d ∷ ds) (rising_lists d m k)) (range_with_len low (m - low))
    ∙ rising_length_from k m low (m - low) (λ d u. rising_length k m d u) (omega arith)

-- ---- pairs of two lists of one length

-- from a list on, each pair of a list with itself or with a later one
pairs_from : (m : ℕ) (xs : List ℕ) (n : ℕ) → IsRising 0 m (length xs) xs → length (rising_after m xs) ≡ n
    → 2 * sum_by (λ a. suc (length (rising_after m a))) (xs ∷ rising_after m xs) ≡ suc n * suc (suc n)
pairs_from m xs zero is e = by_rest (rising_after m xs) e
  where
    by_rest : (rest : List (List ℕ)) → length rest ≡ 0 → 2 * sum_by (λ a. suc (length (rising_after m a))) (xs ∷ rest) ≡ 2
    by_rest [] f = omega (arith, e)
    by_rest (y ∷ ys) f = absurd (omega (arith, f))
pairs_from m xs (suc n) is e = by_next (next_rising m xs) (rising_after-next m xs is.below) (λ ys. pairs_from m ys n)
  where
    by_next : (next : Option (List ℕ)) → rising_after m xs ≡ from_next m next
        → ((ys : List ℕ) → IsRising 0 m (length ys) ys → length (rising_after m ys) ≡ n → 2 * sum_by (λ a. suc (length (rising_after m a))) (ys ∷ rising_after m ys) ≡ suc n * suc (suc n))
        → 2 * sum_by (λ a. suc (length (rising_after m a))) (xs ∷ rising_after m xs) ≡ suc (suc n) * suc (suc (suc n))
    by_next None after later = absurd (omega (arith, ap length after, e))
    by_next (Some ys) after later =
        let member : IsIn ys (rising_after m xs) = subst (IsIn ys) (sym after) (inl refl) in
        let next = after_from 0 m xs ys is member in
        let rest = later ys (subst (λ (k : ℕ). IsRising 0 m k ys) (sym next.0.long) next.0) (omega (arith, ap length after, e)) in
        let whole : sum_by (λ a. suc (length (rising_after m a))) (xs ∷ rising_after m xs) ≡ suc (suc n) + sum_by (λ a. suc (length (rising_after m a))) (ys ∷ rising_after m ys) =
        sum_by-cons (λ a. suc (length (rising_after m a))) xs (rising_after m xs) ∙ rw (e, after) refl in
        omega (arith, rest, whole)

-- ---- canonical choices

first_long : (m k : ℕ) (a : List ℕ) → IsIn a (rising_lists 0 m k) → length a ≡ k
first_long m k a i = let is : IsRising 0 m k a = rising_from k 0 m a i in is.long

all_rising : (m k : ℕ) → length (rising_lists 0 m k) ≡ rising_count m k
all_rising m k = let none : m - 0 ≡ m = omega arith in rising_length k m 0 (omega arith) ∙ ap (λ w. rising_count w k) none

-- two lists of different lengths
shorter_first : (m n q k : ℕ) (a : List ℕ) → k + k < n → IsIn a (rising_lists 0 m k) → length (with_first m n q a) ≡ rising_count m (n - k)
shorter_first m n q k a l i =
    let long = first_long m k a i in
    let test : ltb (length a + length a) n ≡ true = lt-ltb (length a + length a) n (omega (arith, long)) in
    length-map (second_lists m n a) (λ b. let t : Choice = record { state = q; a = a; b = b } in t)
    ∙ (ap (λ (b : Bool). length (cond b (rising_lists 0 m (n - length a)) (a ∷ rising_after m a))) test ∙ (all_rising m (n - length a) ∙ ap (λ j. rising_count m (n - j)) long))

size_length : (m n q k : ℕ) → k + k < n → length (with_size m n q k) ≡ rising_count m k * rising_count m (n - k)
size_length m n q k l =
    length-flat_map (with_first m n q) (rising_lists 0 m k)
    ∙ (sum_by_constant (λ a. length (with_first m n q a)) (rising_count m (n - k)) (rising_lists 0 m k) (λ a i. shorter_first m n q k a l i)
    ∙ ap (λ x. x * rising_count m (n - k)) (all_rising m k))

-- two lists of one length
equal_first : (m n q k : ℕ) (a : List ℕ) → k + k ≡ n → IsIn a (rising_lists 0 m k) → length (with_first m n q a) ≡ suc (length (rising_after m a))
equal_first m n q k a e i =
    let long = first_long m k a i in
    let test : ltb (length a + length a) n ≡ false = le-ltb (length a + length a) n (omega (arith, long)) in
    length-map (second_lists m n a) (λ b. let t : Choice = record { state = q; a = a; b = b } in t)
    ∙ ap (λ (b : Bool). length (cond b (rising_lists 0 m (n - length a)) (a ∷ rising_after m a))) test

twice : (s x : ℕ) → 2 * s ≡ x * (x + 1) → s ≡ pairs_in_order x
unfolding pairs_in_order
twice s x e = let h : 2 * s / 2 ≡ x * (x + 1) / 2 = ap (λ y. y / 2) e in omega (arith, h)

middle_length : (m n q k : ℕ) → 0 < m → k + k ≡ n → length (with_size m n q k) ≡ pairs_in_order (rising_count m k)
middle_length m n q k some e =
    let first = rising_first k 0 m some in
    let member : IsIn (replicate k 0) (rising_lists 0 m k) = subst (IsIn (replicate k 0)) (sym first) (inl refl) in
    let is : IsRising 0 m k (replicate k 0) = rising_from k 0 m (replicate k 0) member in
    let after = length (rising_after m (replicate k 0)) in
    let pairs = pairs_from m (replicate k 0) after (subst (λ (j : ℕ). IsRising 0 m j (replicate k 0)) (sym is.long) is) refl in
    let count : rising_count m k ≡ suc after = sym (all_rising m k) ∙ ap length first in
    length-flat_map (with_first m n q) (rising_lists 0 m k)
    ∙ (sum_by_same (λ a. length (with_first m n q a)) (λ a. suc (length (rising_after m a))) (rising_lists 0 m k) (λ a i. equal_first m n q k a e i)
    ∙ (ap (sum_by (λ a. suc (length (rising_after m a)))) first
    ∙ twice _ (rising_count m k) (rw count (omega (arith, pairs)))))

-- all sizes of the first list
state_length : (m n q : ℕ) → 0 < m → 2 ≤ n → length (with_state m n q) ≡ choices_per_state m n
unfolding choices_per_state
state_length m n q some two = length-flat_map (with_size m n q) (range_with_len 1 (n / 2)) ∙ by_rest (cases_eq (n % 2) 0)
  where
    shorter : (k : ℕ) → IsIn k (range_with_len 1 ((n - 1) / 2)) → length (with_size m n q k) ≡ rising_count m k * rising_count m (n - k)
    shorter k i = let r = in_range 1 ((n - 1) / 2) k i in size_length m n q k (omega (arith, r.0, r.1))

    by_rest : ((n % 2 ≡ 0) ⊎ (n % 2 ≢ 0)) → sum_by (λ k. length (with_size m n q k)) (range_with_len 1 (n / 2))
        ≡ sum_by (λ a. rising_count m a * rising_count m (n - a)) (range_with_len 1 ((n - 1) / 2)) + cond (nat_eq (n % 2) 0) (pairs_in_order (rising_count m (n / 2))) 0
    by_rest (inl even) =
        let half : n / 2 ≡ suc ((n - 1) / 2) = omega arith in
        let last : 1 + (n - 1) / 2 ≡ n / 2 = omega arith in
        let whole : n / 2 + n / 2 ≡ n = omega arith in
        let less = sum_by_same (λ k. length (with_size m n q k)) (λ a. rising_count m a * rising_count m (n - a)) (range_with_len 1 ((n - 1) / 2)) shorter in
        let more = sum_by_range_more (λ k. length (with_size m n q k)) 1 ((n - 1) / 2) in
        let middle = ap (λ k. length (with_size m n q k)) last ∙ middle_length m n q (n / 2) some whole in
        ap (λ j. sum_by (λ k. length (with_size m n q k)) (range_with_len 1 j)) half
        ∙ (more ∙ rw (less, middle, eq-eqb (n % 2) 0 even) refl)
    by_rest (inr odd) =
        let half : n / 2 ≡ (n - 1) / 2 = omega arith in
        let less = sum_by_same (λ k. length (with_size m n q k)) (λ a. rising_count m a * rising_count m (n - a)) (range_with_len 1 ((n - 1) / 2)) shorter in
        ap (λ j. sum_by (λ k. length (with_size m n q k)) (range_with_len 1 j)) half ∙ rw (less, ne_eqb (n % 2) 0 odd) (omega arith)

-- the sum over the shorter lists, and the middle term if n is even
pub even_choices : (m n sum half : ℕ) → n % 2 ≡ 0 → sum ≡ sum_by (λ a. rising_count m a * rising_count m (n - a)) (range_with_len 1 ((n - 1) / 2)) → half ≡ rising_count m (n / 2)
    → sum + half * (half + 1) / 2 ≡ choices_per_state m n
unfolding choices_per_state pairs_in_order
even_choices m n sum half even e f = rw (e, f, eq-eqb (n % 2) 0 even) refl

pub odd_choices : (m n sum : ℕ) → n % 2 ≢ 0 → sum ≡ sum_by (λ a. rising_count m a * rising_count m (n - a)) (range_with_len 1 ((n - 1) / 2)) → sum ≡ choices_per_state m n
unfolding choices_per_state
odd_choices m n sum odd e = rw (e, ne_eqb (n % 2) 0 odd) (omega arith)

pub canonical_length : (states m n : ℕ) → 1 ≤ m → 2 ≤ n → length (canonical_choices states m n) ≡ states * choices_per_state m n
unfolding canonical_choices
canonical_length states m n some two =
    length-flat_map (with_state m n) (range_with_len 0 states)
    ∙ (sum_by_constant (λ q. length (with_state m n q)) (choices_per_state m n) (range_with_len 0 states) (λ q i. state_length m n q some two)
    ∙ ap (λ x. x * choices_per_state m n) (length-range_with_len 0 states))
