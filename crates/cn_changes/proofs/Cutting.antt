-- Lists that are cut behind so many elements.
use Rattle.std.proofs.Common.{◌≡◌, ℕ, zero, suc, ◌+◌, ◌<◌, ◌≤◌, List, [], ◌∷◌, ◌++◌, length, take, drop, get_or, arith, refl, ap, sym, ◌∙◌, append-nil, append_assoc, length-append}
use Rattle.std.specs.List.{AllByRecursion, flat_map}
use Rattle.std.proofs.lemmas.List.{length-take, take-append-drop, take-append-le, take_more}
use Rattle.std.proofs.lemmas.Grind.{flat_map-append}

-- what is cut away from the front of a list is cut away from the list
pub cut_front : {X : Type 0} (n : ℕ) (xs ys : List X) → take n (take n xs ++ ys) ≡ take n (xs ++ ys)
cut_front zero xs ys = refl
cut_front (suc n) [] ys = refl
cut_front (suc n) (x ∷ xs) ys = ap (λ l. x ∷ l) (cut_front n xs ys)

pub cut_none : {X : Type 0} (n : ℕ) (xs : List X) → length xs ≤ n → take n xs ≡ xs
cut_none zero [] l = refl
cut_none zero (x ∷ xs) l = absurd (omega arith)
cut_none (suc n) [] l = refl
cut_none (suc n) (x ∷ xs) l = ap (λ ys. x ∷ ys) (cut_none n xs (omega (arith, l)))

-- cut twice
pub cut_twice : {X : Type 0} (n m : ℕ) (xs : List X) → n ≤ m → take n (take m xs) ≡ take n xs
cut_twice zero m xs l = refl
cut_twice (suc n) zero xs l = absurd (omega arith)
cut_twice (suc n) (suc m) [] l = refl
cut_twice (suc n) (suc m) (x ∷ xs) l = ap (λ ys. x ∷ ys) (cut_twice n m xs (omega (arith, l)))

-- a list that is as long as the cut has all of it, whatever comes behind
pub cut_full : {X : Type 0} (n : ℕ) (xs ys : List X) (got : List X) → got ≡ take n xs → n ≤ length got → got ≡ take n (xs ++ ys)
cut_full n xs ys got e l = e ∙ sym (take-append-le n xs ys (omega (arith, ap length e, length-take n xs)))

-- a few elements more, for which there is room
pub cut_room : {X : Type 0} (n : ℕ) (xs ys got : List X) → got ≡ take n xs → length (got ++ ys) ≤ n → got ++ ys ≡ take n (xs ++ ys)
cut_room n xs ys got e l = sym (cut_none n (got ++ ys) l) ∙ (ap (λ (front : List _). take n (front ++ ys)) e ∙ cut_front n xs ys)

-- ---- parts of lists

-- the parts of one element more
pub parts_more : {X Y : Type 0} (f : X → List Y) (xs : List X) (i : ℕ) (d : X) → i < length xs → flat_map f (take (i + 1) xs) ≡ flat_map f (take i xs) ++ f (get_or xs i d)
parts_more f xs i d l =
    ap (flat_map f) (take_more xs i d l)
    ∙ (flat_map-append f (take i xs) (get_or xs i d ∷ []) ∙ ap (λ ys. flat_map f (take i xs) ++ ys) (append-nil (f (get_or xs i d))))

-- the same, cut
pub parts_step : {X Y : Type 0} (n : ℕ) (f : X → List Y) (xs : List X) (i : ℕ) (d : X) (old new : List Y) → i < length xs → old ≡ take n (flat_map f (take i xs))
    → new ≡ take n (old ++ f (get_or xs i d)) → new ≡ take n (flat_map f (take (i + 1) xs))
parts_step n f xs i d old new l before e =
    e ∙ (ap (λ front. take n (front ++ f (get_or xs i d))) before ∙ (cut_front n (flat_map f (take i xs)) (f (get_or xs i d)) ∙ ap (take n) (sym (parts_more f xs i d l))))

-- those of all elements are those of the first and of the others
pub parts_of_all : {X Y : Type 0} (f : X → List Y) (xs : List X) (i : ℕ) → flat_map f xs ≡ flat_map f (take i xs) ++ flat_map f (drop i xs)
parts_of_all f xs i = ap (flat_map f) (sym (take-append-drop i xs)) ∙ flat_map-append f (take i xs) (drop i xs)

-- behind an old list, one part more, for which there is room
pub parts_next : {X Y : Type 0} (n : ℕ) (f : X → List Y) (xs : List X) (i : ℕ) (d : X) (old got new : List Y) → i < length xs → got ≡ take n (old ++ flat_map f (take i xs))
    → ((x : X) → length (f x) ≤ 1) → length got + 1 ≤ n → new ≡ got ++ f (get_or xs i d) → new ≡ take n (old ++ flat_map f (take (i + 1) xs))
parts_next n f xs i d old got new l before few room e =
    let one = f (get_or xs i d) in
    let front = flat_map f (take i xs) in
    e ∙ (cut_room n (old ++ front) one got before (omega (arith, length-append got one, few (get_or xs i d), room))
    ∙ ap (take n) (append_assoc old front one ∙ ap (λ ys. old ++ ys) (sym (parts_more f xs i d l))))

-- ---- a property of each element

joined : {X : Type 0} (P : X → Type 0) (xs ys : List X) → AllByRecursion P xs → AllByRecursion P ys → AllByRecursion P (xs ++ ys)
joined P [] ys a b = b
joined P (x ∷ xs) ys a b = (a.0, joined P xs ys a.1 b)

pub each_part : {X Y : Type 0} (Q : X → Type 0) (P : Y → Type 0) (f : X → List Y) (xs : List X) → AllByRecursion Q xs → ((x : X) → Q x → AllByRecursion P (f x)) → AllByRecursion P (flat_map f xs)
each_part Q P f [] all h = tt
each_part Q P f (x ∷ xs) all h = joined P (f x) (flat_map f xs) (h x all.0) (each_part Q P f xs all.1 h)

pub each_of_front : {X : Type 0} (P : X → Type 0) (n : ℕ) (xs : List X) → AllByRecursion P xs → AllByRecursion P (take n xs)
each_of_front P zero xs all = tt
each_of_front P (suc n) [] all = tt
each_of_front P (suc n) (x ∷ xs) all = (all.0, each_of_front P n xs all.1)
