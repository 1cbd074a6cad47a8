-- Lists that never fall: the first of its length, and the one that comes next.
use Rattle.std.proofs.Common.{◌≡◌, ℕ, zero, suc, ◌+◌, ◌-◌, ◌<◌, ◌≤◌, List, [], ◌∷◌, ◌++◌, length, length-append, length-drop, length-take-le, append-nil, get_or, set, take, drop, drop-cons, refl, sym, ap, ◌∙◌, arith, replicate, All}
use Rattle.std.specs.List.{AllByRecursion, refill}
use Rattle.std.proofs.lemmas.Bool.{lt-ltb}
use Rattle.std.proofs.lemmas.List.{drop_all, length-replicate, set-append_right, take-append-drop, take-append-le, take_all}
use Rattle.std.proofs.lemmas.List.Edits.{fill_more}
use Rattle.std.proofs.lemmas.List.Elements.{All-from_recursion, recursion_from_All}
use Rattle.cn_choice.specs.Canonical.{second_lists}
use Rattle.cn_choice.specs.Rising.{rising_after, rising_lists}
use Rattle.cn_table.proofs.Lists.{range_first, range_none}

zeros_below : (k m : ℕ) → 1 ≤ m → AllByRecursion (λ x. x < m) (replicate k 0)
zeros_below zero m l = tt
zeros_below (suc k) m l = (l, zeros_below k m l)

pub zeros_known : (k m : ℕ) → 1 ≤ m → All (λ x. x < m) (replicate k 0)
zeros_known k m l = All-from_recursion (λ x. x < m) (replicate k 0) (zeros_below k m l)

-- the first of them has the least number all along
pub first_list : (k low m : ℕ) → low < m → rising_lists low m k ≡ replicate k low ∷ rising_after m (replicate k low)
first_list zero low m l = refl
first_list (suc k) low m l = rw (range_first low m l, first_list k low m l, length-replicate k low) refl

-- where each number is the greatest there is no next one
none_after : (m : ℕ) (xs : List ℕ) → AllByRecursion (λ x. m ≤ x + 1) xs → rising_after m xs ≡ []
none_after m [] h = refl
none_after m (x ∷ xs) h = rw (none_after m xs h.1, range_none (x + 1) m h.0) refl

-- where a number can grow and those behind it cannot, it and those behind it become one more than it was
one_after : (m : ℕ) (front : List ℕ) (x : ℕ) (back : List ℕ) → x + 1 < m → AllByRecursion (λ y. m ≤ y + 1) back
    → rising_after m (front ++ x ∷ back) ≡ (front ++ replicate (suc (length back)) (x + 1)) ∷ rising_after m (front ++ replicate (suc (length back)) (x + 1))
one_after m [] x back l h = rw (none_after m back h, range_first (x + 1) m l, first_list (length back) (x + 1) m l, length-replicate (length back) (x + 1)) refl
one_after m (y ∷ front) x back l h =
    let long : length (front ++ x ∷ back) ≡ length (front ++ replicate (suc (length back)) (x + 1)) =
    length-append front (x ∷ back) ∙ (omega (arith, length-replicate (suc (length back)) (x + 1)) ∙ sym (length-append front (replicate (suc (length back)) (x + 1)))) in
    rw (one_after m front x back l h, long) refl

-- the same of a list and a place in it
pub step_on : (m : ℕ) (xs : List ℕ) (place : ℕ) → place < length xs → get_or xs place 0 + 1 < m → All (λ y. m ≤ y + 1) (drop (suc place) xs) → (ys : List ℕ)
    → ys ≡ take place xs ++ replicate (length xs - place) (get_or xs place 0 + 1) → rising_after m xs ≡ ys ∷ rising_after m ys
step_on m xs place inside l h ys e =
    let split : xs ≡ take place xs ++ get_or xs place 0 ∷ drop (suc place) xs = sym (take-append-drop place xs) ∙ ap (λ (zs : List ℕ). take place xs ++ zs) (drop-cons xs place 0 inside) in
    let long : length xs - place ≡ suc (length (drop (suc place) xs)) = omega (arith, length-drop (suc place) xs) in
    let same : ys ≡ take place xs ++ replicate (suc (length (drop (suc place) xs))) (get_or xs place 0 + 1) = e ∙ ap (λ (k : ℕ). take place xs ++ replicate k (get_or xs place 0 + 1)) long in
    ap (rising_after m) split ∙ (one_after m (take place xs) (get_or xs place 0) (drop (suc place) xs) l (recursion_from_All _ _ h) ∙ ap (λ (zs : List ℕ). zs ∷ rising_after m zs) (sym same))

pub step_end : (m : ℕ) (xs : List ℕ) → All (λ y. m ≤ y + 1) xs → rising_after m xs ≡ []
step_end m xs h = none_after m xs (recursion_from_All _ _ h)

-- the first list that goes with another one
pub first_longer : (m n : ℕ) (a : List ℕ) → 1 ≤ m → length a + length a < n → second_lists m n a ≡ replicate (n - length a) 0 ∷ rising_after m (replicate (n - length a) 0)
first_longer m n a some l = rw (lt-ltb (length a + length a) n l) (first_list (n - length a) 0 m some)

-- ---- numbers that are raised one after the other

pub raise_more : (xs ys : List ℕ) (place later value : ℕ) → place ≤ later → later < length xs → ys ≡ take place xs ++ (replicate (later - place) value ++ drop (later - place) (drop place xs))
    → set ys later value ≡ take place xs ++ (replicate (later + 1 - place) value ++ drop (later + 1 - place) (drop place xs))
raise_more xs ys place later value l inside e =
    let front : length (take place xs) ≡ place = length-take-le place xs (omega arith) in
    let next : later - place + 1 ≡ later + 1 - place = omega arith in
    let more = fill_more (later - place) value (drop place xs) (omega (arith, length-drop place xs)) in
    ap (λ (zs : List ℕ). set zs later value) e
    ∙ (set-append_right (take place xs) (replicate (later - place) value ++ drop (later - place) (drop place xs)) place later value front l
    ∙ ap (λ (zs : List ℕ). take place xs ++ zs) (more ∙ ap (λ (k : ℕ). replicate k value ++ drop k (drop place xs)) next))

pub raise_first : (xs : List ℕ) (place value : ℕ) → place < length xs → set xs place value ≡ take place xs ++ (replicate (place + 1 - place) value ++ drop (place + 1 - place) (drop place xs))
raise_first xs place value inside =
    let none : place - place ≡ 0 = omega arith in
    raise_more xs xs place place value (omega arith) inside
    (sym (take-append-drop place xs) ∙ ap (λ (k : ℕ). take place xs ++ (replicate k value ++ drop k (drop place xs))) (sym none))

-- the front of a list stays, whatever comes behind it
pub taken_twice : (place : ℕ) (xs behind : List ℕ) → place ≤ length xs → take place (take place xs ++ behind) ≡ take place xs
taken_twice place xs behind fits =
    let front : length (take place xs) ≡ place = length-take-le place xs fits in
    take-append-le place (take place xs) behind (omega (arith, front)) ∙ take_all place (take place xs) (omega (arith, front))

-- a list that is written over with one of its length is that one
pub written_over : (xs ys : List ℕ) → length ys ≡ length xs → refill (length xs) xs ys ≡ ys
written_over xs ys e =
    ap (λ (zs : List ℕ). take (length xs) (ys ++ zs)) (drop_all (length ys) xs (omega (arith, e)))
    ∙ (ap (λ (zs : List ℕ). take (length xs) zs) (append-nil ys) ∙ take_all (length xs) ys (omega (arith, e)))
