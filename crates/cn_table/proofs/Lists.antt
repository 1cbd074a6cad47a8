-- Lemmas on lists for more than one crate.
use Rattle.std.proofs.Common.{◌≡◌, ◌⊎◌, inl, inr, ℕ, zero, suc, ◌<◌, ◌+◌, List, [], ◌∷◌, ◌++◌, length, drop, get_or, map, slice_get, Bool, false, ◌||◌, Option, Some, None, option_map, Result, Ok, Err, All, Contains, arith, refl, ap, subst, sym, ◌∙◌, append_assoc, ◌-◌, ◌≤◌}
use Rattle.std.proofs.lemmas.List.{drop_more}
use Rattle.std.specs.Prelude.{OnOk}
use Rattle.std.specs.List.{list_any, range_with_len}
use Rattle.std.proofs.lemmas.List.Elements.{All-contains, All-contains_itself, All-weaker, Contains-append_left, Contains-append_right}
use Rattle.cn_table.specs.Draft.{all_some, ◌>>=◌}
use Rattle.cn_table.proofs.ListLemmas.{map_twice}

-- an element between two parts of a list is in the list
pub Contains-between : {X : Type 0} (xs before after : List X) (x : X) → before ++ x ∷ after ≡ xs → Contains xs x
Contains-between xs before after x e = subst (λ (ys : List _). Contains ys x) e (Contains-append_right before (x ∷ after) x (0, omega arith, refl))

-- the numbers from low on and below m: the first and the rest, or none
pub range_first : (low m : ℕ) → low < m → range_with_len low (m - low) ≡ low ∷ range_with_len (low + 1) (m - (low + 1))
range_first low m l = let e : m - low ≡ suc (m - (low + 1)) = omega arith in rw e refl

pub range_none : (low m : ℕ) → m ≤ low → range_with_len low (m - low) ≡ []
range_none low m l = let e : m - low ≡ 0 = omega arith in rw e refl

-- an element of the front of a list has the same place in the whole list
pub get_front : {A : Type 0} (xs ys : List A) (k : ℕ) (x : A) → slice_get xs k ≡ Some x → slice_get (xs ++ ys) k ≡ Some x
get_front [] ys k x h = absurd cc
get_front (z ∷ xs) ys zero x h = h
get_front (z ∷ xs) ys (suc k) x h = get_front xs ys k x h

-- with one element more at the end, each element keeps its place, and the new one has the last place
pub get_push_old : {A : Type 0} (xs : List A) (x : A) (k : ℕ) (y : A) → slice_get xs k ≡ Some y → slice_get (xs ++ x ∷ []) k ≡ Some y
get_push_old xs x k y h = get_front xs (x ∷ []) k y h

pub get_push_new : {A : Type 0} (xs : List A) (x : A) → slice_get (xs ++ x ∷ []) (length xs) ≡ Some x
get_push_new [] x = refl
get_push_new (z ∷ xs) x = get_push_new xs x

-- an element of a list with one more at the end is an old element or the new one
pub get_push_cases : {A : Type 0} (xs : List A) (x : A) (k : ℕ) (y : A) → slice_get (xs ++ x ∷ []) k ≡ Some y → (slice_get xs k ≡ Some y) ⊎ ((k ≡ length xs) × (x ≡ y))
get_push_cases [] x zero y h = inr (refl, cc)
get_push_cases [] x (suc k) y h = absurd cc
get_push_cases (z ∷ xs) x zero y h = inl h
get_push_cases (z ∷ xs) x (suc k) y h = elim (get_push_cases xs x k y h) [ inl a ↦ inl a | inr b ↦ inr (ap suc b.0, b.1) ]

-- each place of a list has an element
pub there_is : {A : Type 0} (xs : List A) (k : ℕ) → k < length xs → (x : A) × (slice_get xs k ≡ Some x)
there_is [] k within = absurd (omega (arith, within))
there_is (x ∷ xs) zero within = (x, refl)
there_is (x ∷ xs) (suc k) within = there_is xs k (omega (arith, within))

-- the place of an element is below the length
pub get_low : {A : Type 0} (xs : List A) (k : ℕ) (x : A) → slice_get xs k ≡ Some x → k < length xs
get_low [] k x h = absurd cc
get_low (y ∷ xs) zero x h = omega arith
get_low (y ∷ xs) (suc k) x h = let l = get_low xs k x h in omega arith

-- a property of all elements of a list holds for all elements of its parts
pub All-parts : {X : Type 0} (P : X → Type 0) (xs ys : List X) → All P (xs ++ ys) → All P xs × All P ys
All-parts P xs ys all = (
  All-weaker (Contains xs) P (λ x here. All-contains P (xs ++ ys) x all (Contains-append_left xs ys x here)) xs (All-contains_itself xs),
  All-weaker (Contains ys) P (λ y here. All-contains P (xs ++ ys) y all (Contains-append_right xs ys y here)) ys (All-contains_itself ys),
)

-- a test of some element, after a function was applied to each; no element passes the test
pub list_any-map : {X Y : Type 0} (p : Y → Bool) (f : X → Y) (xs : List X) → list_any p (map f xs) ≡ list_any (λ x. p (f x)) xs
list_any-map p f [] = refl
list_any-map p f (x ∷ xs) = ap (λ b. p (f x) || b) (list_any-map p f xs)

pub none_skipped : {X : Type 0} (xs : List X) → list_any (λ _. false) xs ≡ false
none_skipped [] = refl
none_skipped (x ∷ xs) = none_skipped xs

-- two parts, the second behind the first
pub two_parts : {T E A : Type 0} (r : Result T E) (old mid new a b : List A) → mid ≡ old ++ a → OnOk r (new ≡ mid ++ b) → OnOk r (new ≡ old ++ (a ++ b))
two_parts (Ok x) old mid new a b first second = second ∙ rw first (append_assoc old a b)
two_parts (Err e) old mid new a b first second = tt

-- ---- reading the items of a list one after another, all or none

-- the items read so far, and the rest
abbrev pub with_front : {X : Type 0} → List X → Option (List X) → Option (List X)
with_front front rest = option_map (λ xs. front ++ xs) rest

-- one more item stands behind those read so far
pub front_one : {X : Type 0} (front : List X) (x : X) (rest : Option (List X)) → with_front front (rest >>= (λ xs. Some (x ∷ xs))) ≡ with_front (front ++ x ∷ []) rest
front_one front x None = refl
front_one front x (Some xs) = ap Some (sym (append_assoc front (x ∷ []) xs))

-- an item that gives a value is the next one read
pub front_next : {V X : Type 0} (f : V → Option X) (front : List X) (vs : List V) (i : ℕ) (d : V) (x : X) → i < length vs → f (get_or vs i d) ≡ Some x
    → with_front front (all_some (map f (drop i vs))) ≡ with_front (front ++ x ∷ []) (all_some (map f (drop (i + 1) vs)))
front_next f front vs i d x within is = rw (drop_more vs i d within, is) (front_one front x _)

-- with an item that gives nothing, the whole gives nothing
pub front_stops : {V X : Type 0} (f : V → Option X) (front : List X) (vs : List V) (i : ℕ) (d : V) → i < length vs → f (get_or vs i d) ≡ None
    → with_front front (all_some (map f (drop i vs))) ≡ None
front_stops f front vs i d within is = rw (drop_more vs i d within, is) refl

none_yet : {X : Type 0} (rest : Option (List X)) → with_front [] rest ≡ rest
none_yet None = refl
none_yet (Some xs) = refl

-- at the start, all items are still to read
pub front_first : {V D X : Type 0} (f : D → Option X) (g : V → D) (vs : List V) → with_front [] (all_some (map (λ v. f (g v)) vs)) ≡ all_some (map f (map g vs))
front_first f g vs = none_yet _ ∙ ap all_some (sym (map_twice f g vs))
