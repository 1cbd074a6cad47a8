-- One non-decreasing list after another.
use Rattle.std.proofs.Common.{◌≡◌, ℕ, zero, suc, ◌+◌, ◌-◌, ◌<◌, ◌≤◌, List, [], ◌∷◌, ◌++◌, length, map, get_or, set, take, drop, drop-cons, refl, ap, ◌∙◌, subst, arith, Bool, true, false, cond, ltb, Option, Some, None, replicate, length-drop, length-take-le}
use Rattle.std.specs.List.{flat_map, range_with_len, AllByRecursion}
use Rattle.std.proofs.lemmas.List.{length-replicate, set-append_right, set_split}
use Rattle.std.proofs.lemmas.List.Edits.{fill_more}
use Rattle.std.proofs.lemmas.Bool.{lt-ltb, ltb-true, ltb-false}
use Rattle.cn_choice.specs.Rising.{next_rising, or_else, rising_after, rising_lists}
use Rattle.cn_table.proofs.Lists.{range_first, range_none}

-- the first list has the least number at each place
pub rising_first : (k low m : ℕ) → low < m → rising_lists low m k ≡ replicate k low ∷ rising_after m (replicate k low)
rising_first zero low m l = refl
rising_first (suc k) low m l = rw (range_first low m l, rising_first k low m l, length-replicate k low) refl

-- this list and all later ones
abbrev pub from_next : ℕ → Option (List ℕ) → List (List ℕ)
from_next m None = []
from_next m (Some ys) = ys ∷ rising_after m ys

pub next_long : (m : ℕ) (xs ys : List ℕ) → next_rising m xs ≡ Some ys → length ys ≡ length xs
next_long m [] ys e = absurd (cc e)
next_long m (x ∷ xs) ys e = by_rest (next_rising m xs) refl (next_long m xs) e
  where
    by_rest : (r : Option (List ℕ)) → next_rising m xs ≡ r → ((zs : List ℕ) → next_rising m xs ≡ Some zs → length zs ≡ length xs)
        → or_else r x (cond (ltb (x + 1) m) (Some (replicate (suc (length xs)) (x + 1))) None) ≡ Some ys → length ys ≡ suc (length xs)
    by_rest (Some zs) g later f = subst (λ (l : List ℕ). length l ≡ suc (length xs)) (of_some _ _ f) (ap suc (later zs g))
      where
        of_some : (a b : List ℕ) → Some a ≡ Some b → a ≡ b
        of_some a b h = cc
    by_rest None g later f = by_test (ltb (x + 1) m) f
      where
        by_test : (b : Bool) → cond b (Some (replicate (suc (length xs)) (x + 1))) None ≡ Some ys → length ys ≡ suc (length xs)
        by_test true h = subst (λ (l : List ℕ). length l ≡ suc (length xs)) (of_some _ _ h) (length-replicate (suc (length xs)) (x + 1))
          where
            of_some : (a b : List ℕ) → Some a ≡ Some b → a ≡ b
            of_some a b h = cc
        by_test false h = absurd (cc h)

pub rising_after-next : (m : ℕ) (xs : List ℕ) → AllByRecursion (λ x. x < m) xs → rising_after m xs ≡ from_next m (next_rising m xs)
rising_after-next m [] a = refl
rising_after-next m (x ∷ xs) a = by_rest (next_rising m xs) refl (rising_after-next m xs a.1)
  where
    by_rest : (r : Option (List ℕ)) → next_rising m xs ≡ r → rising_after m xs ≡ from_next m (next_rising m xs)
        → rising_after m (x ∷ xs) ≡ from_next m (or_else r x (cond (ltb (x + 1) m) (Some (replicate (suc (length xs)) (x + 1))) None))
    by_rest (Some ys) g later = let e = later ∙ ap (from_next m) g in rw (e, next_long m xs ys g) refl
    by_rest None g later = let e = later ∙ ap (from_next m) g in rw e (by_test (ltb (x + 1) m) refl)
      where
        by_test : (b : Bool) → ltb (x + 1) m ≡ b
            → flat_map (λ d. map (λ ds. d ∷ ds) (rising_lists d m (length xs))) (range_with_len (x + 1) (m - (x + 1))) ≡ from_next m (cond b (Some (replicate (suc (length xs)) (x + 1))) None)
        by_test true t = let l = ltb-true (x + 1) m t in rw (range_first (x + 1) m l, rising_first (length xs) (x + 1) m l, length-replicate (length xs) (x + 1)) refl
        by_test false t = rw (range_none (x + 1) m (ltb-false (x + 1) m t)) refl

-- if a later part of a list has a next list, that gives the next list of the whole
pub next_rising-drop : (m : ℕ) (xs : List ℕ) (i : ℕ) (ys : List ℕ) → i ≤ length xs → next_rising m (drop i xs) ≡ Some ys → next_rising m xs ≡ Some (take i xs ++ ys)
next_rising-drop m xs zero ys l e = e
next_rising-drop m [] (suc i) ys l e = absurd (omega arith)
next_rising-drop m (x ∷ xs) (suc i) ys l e = rw (next_rising-drop m xs i ys (omega arith) e) refl

pub next_rising-here : (m : ℕ) (xs : List ℕ) (i : ℕ) → i < length xs → next_rising m (drop (suc i) xs) ≡ None → get_or xs i 0 + 1 < m
    → next_rising m xs ≡ Some (take i xs ++ (get_or xs i 0 + 1) ∷ replicate (length xs - (i + 1)) (get_or xs i 0 + 1))
next_rising-here m xs i l e f =
    next_rising-drop m xs i ((get_or xs i 0 + 1) ∷ replicate (length xs - (i + 1)) (get_or xs i 0 + 1)) (omega arith)
    (let long : length xs - (i + 1) ≡ length (drop (suc i) xs) = omega (arith, length-drop (suc i) xs) in
    rw (drop-cons xs i 0 l, e, lt-ltb (get_or xs i 0 + 1) m f, long) refl)

-- ---- a number that is raised, and numbers behind it that are written one after the other

-- the list with this value at one place, and with the other value behind it as far as before another place
abbrev pub raised : List ℕ → ℕ → ℕ → ℕ → ℕ → List ℕ
raised xs place later value behind = take place xs ++ value ∷ (replicate (later - (place + 1)) behind ++ drop (later - (place + 1)) (drop (place + 1) xs))

pub raise_more : (xs ys : List ℕ) (place later value behind : ℕ) → place < later → later < length xs → ys ≡ raised xs place later value behind
    → set ys later behind ≡ raised xs place (later + 1) value behind
raise_more xs ys place later value behind l inside e =
    let k : ℕ = later - (place + 1) in
    let front : length (take place xs) ≡ place = length-take-le place xs (omega arith) in
    let first : later - place ≡ suc k = omega arith in
    let next : k + 1 ≡ later + 1 - (place + 1) = omega arith in
    let more = fill_more k behind (drop (place + 1) xs) (omega (arith, length-drop (place + 1) xs)) in
    ap (λ (zs : List ℕ). set zs later behind) e
    ∙ (set-append_right (take place xs) (value ∷ (replicate k behind ++ drop k (drop (place + 1) xs))) place later behind front (omega arith)
    ∙ (ap (λ (i : ℕ). take place xs ++ set (value ∷ (replicate k behind ++ drop k (drop (place + 1) xs))) i behind) first
    ∙ ap (λ (zs : List ℕ). take place xs ++ value ∷ zs) (more ∙ ap (λ (k : ℕ). replicate k behind ++ drop k (drop (place + 1) xs)) next)))

pub raise_first : (xs : List ℕ) (place value behind : ℕ) → place < length xs → set xs place value ≡ raised xs place (place + 1) value behind
raise_first xs place value behind inside =
    let none : place + 1 - (place + 1) ≡ 0 = omega arith in
    let next : suc place ≡ place + 1 = omega arith in
    set_split xs place value inside ∙ rw (none, next) refl
