-- Elements of lists, by their places.
use Rattle.std.proofs.Common.{ℕ, zero, suc, ◌≡◌, ◌+◌, ◌<◌, ◌⊎◌, inl, inr, List, [], ◌∷◌, ◌++◌, get_or, length, map, refl, sym, ap, ◌∙◌, subst, arith, Some}
use Rattle.std.specs.Prelude.{All, Contains, flat_map, slice_get, slice_index_or}
use Rattle.std.proofs.lemmas.Bool.{cases_lt}
use Rattle.std.proofs.lemmas.List.Elements.{All-head, All-tail}
use Rattle.std.proofs.lemmas.List.Concat.{flat_map-cons}
use Rattle.std.proofs.lemmas.Option.{none-some, same_Some, slice_get-get_or, slice_get_within}
use Rattle.cn_shortest.specs.declared.sizes.Sizes.{Sizes}

abbrev pub no_sizes : Sizes
no_sizes = record { counts = []; example = record { start = record { 0 = 0 }; operations = []; teams = [] } }

pub below_or_last : (i k : ℕ) → i < k + 1 → (i < k) ⊎ (i ≡ k)
below_or_last i k l = elim (cases_lt i k) [ inl m ↦ inl m | inr m ↦ inr (omega (arith, l, m)) ]

mapped_from : {X Y : Type 0} (f : X → Y) (xs : List X) (r : Y) (k : ℕ) → k < length (map f xs) → slice_index_or (map f xs) k r ≡ r → (i : ℕ) × (x : X) × (slice_get xs i ≡ Some x) × (f x ≡ r)
mapped_from f [] r k l e = absurd (omega (arith, l))
mapped_from f (x ∷ xs) r zero l e = (0, x, refl, e)
mapped_from f (x ∷ xs) r (suc k) l e = let rest = mapped_from f xs r k (omega (arith, l)) e in (suc rest.0, rest.1, rest.2, rest.3)

pub contains_mapped : {X Y : Type 0} (f : X → Y) (xs : List X) (r : Y) → Contains (map f xs) r → (i : ℕ) × (x : X) × (slice_get xs i ≡ Some x) × (f x ≡ r)
contains_mapped f xs r h = mapped_from f xs r h.0 h.1 h.2

pub contains_at : {X : Type 0} (xs : List X) (i : ℕ) (x : X) → slice_get xs i ≡ Some x → Contains xs x
contains_at [] i x e = absurd (none-some x e)
contains_at (y ∷ xs) zero x e = (0, omega arith, same_Some y x e)
contains_at (y ∷ xs) (suc i) x e = let r = contains_at xs i x e in let l = r.1 in (suc r.0, omega (arith, l), r.2)

pub mapped_at : {X Y : Type 0} (f : X → Y) (xs : List X) (i : ℕ) (x : X) → slice_get xs i ≡ Some x → Contains (map f xs) (f x)
mapped_at f [] i x e = absurd (none-some x e)
mapped_at f (y ∷ xs) zero x e = (0, omega arith, ap f (same_Some y x e))
mapped_at f (y ∷ xs) (suc i) x e = let r = mapped_at f xs i x e in let l = r.1 in (suc r.0, omega (arith, l), r.2)

pub contains_later : {X : Type 0} (xs ys : List X) (x : X) → Contains ys x → Contains (xs ++ ys) x
contains_later [] ys x h = h
contains_later (y ∷ xs) ys x h = let r = contains_later xs ys x h in let l = r.1 in (suc r.0, omega (arith, l), r.2)

before_from : {X : Type 0} (xs ys : List X) (x : X) (k : ℕ) → k < length xs → slice_index_or xs k x ≡ x → Contains (xs ++ ys) x
before_from [] ys x k l e = absurd (omega (arith, l))
before_from (y ∷ xs) ys x zero l e = (0, omega arith, e)
before_from (y ∷ xs) ys x (suc k) l e = let r = before_from xs ys x k (omega (arith, l)) e in let m = r.1 in (suc r.0, omega (arith, m), r.2)

pub contains_before : {X : Type 0} (xs ys : List X) (x : X) → Contains xs x → Contains (xs ++ ys) x
contains_before xs ys x h = before_from xs ys x h.0 h.1 h.2

either_from : {X : Type 0} (xs ys : List X) (x : X) (k : ℕ) → k < length (xs ++ ys) → slice_index_or (xs ++ ys) k x ≡ x → Contains xs x ⊎ Contains ys x
either_from [] ys x k l e = inr (k, l, e)
either_from (y ∷ xs) ys x zero l e = inl (0, omega arith, e)
either_from (y ∷ xs) ys x (suc k) l e = elim (either_from xs ys x k (omega (arith, l)) e) [
  | inl r ↦ (let m = r.1 in inl (suc r.0, omega (arith, m), r.2))
  | inr r ↦ inr r
]

pub contains_either : {X : Type 0} (xs ys : List X) (x : X) → Contains (xs ++ ys) x → Contains xs x ⊎ Contains ys x
contains_either xs ys x h = either_from xs ys x h.0 h.1 h.2

pub all_at : {X : Type 0} (P : X → Type 0) (xs : List X) (i : ℕ) (x : X) → All P xs → slice_get xs i ≡ Some x → P x
all_at P [] i x all e = absurd (none-some x e)
all_at P (y ∷ xs) zero x all e = subst P (same_Some y x e) (All-head P y xs all)
all_at P (y ∷ xs) (suc i) x all e = all_at P xs i x (All-tail P y xs all) e

pub read_at : {X : Type 0} (xs : List X) (i : ℕ) (x d : X) → slice_get xs i ≡ Some x → get_or xs i d ≡ x
read_at xs i x d e = same_Some (get_or xs i d) x (sym (slice_get-get_or xs i d (slice_get_within xs i x e)) ∙ e)

pub element_at : {X : Type 0} (xs : List X) (i : ℕ) → i < length xs → (x : X) × (slice_get xs i ≡ Some x)
element_at [] i l = absurd (omega (arith, l))
element_at (x ∷ xs) zero l = (x, refl)
element_at (x ∷ xs) (suc i) l = element_at xs i (omega (arith, l))

-- ---- lists of several elements for each
pub contains_flat : {X Y : Type 0} (f : X → List Y) (xs : List X) (y : Y) → Contains (flat_map f xs) y → (i : ℕ) × (x : X) × (slice_get xs i ≡ Some x) × Contains (f x) y
contains_flat f [] y h = (let l = h.1 in absurd (omega (arith, l)))
contains_flat f (x ∷ xs) y h = elim (contains_either (f x) (flat_map f xs) y (subst (λ l. Contains l y) (flat_map-cons f x xs) h)) [
  | inl i ↦ (0, x, refl, i)
  | inr i ↦ (let r = contains_flat f xs y i in (suc r.0, r.1, r.2, r.3))
]

pub flat_contains : {X Y : Type 0} (f : X → List Y) (xs : List X) (i : ℕ) (x : X) (y : Y) → slice_get xs i ≡ Some x → Contains (f x) y → Contains (flat_map f xs) y
flat_contains f [] i x y e h = absurd (none-some x e)
flat_contains f (z ∷ xs) zero x y e h =
    subst (λ l. Contains l y) (sym (flat_map-cons f z xs)) (contains_before (f z) (flat_map f xs) y (subst (λ u. Contains (f u) y) (sym (same_Some z x e)) h))
flat_contains f (z ∷ xs) (suc i) x y e h = subst (λ l. Contains l y) (sym (flat_map-cons f z xs)) (contains_later (f z) (flat_map f xs) y (flat_contains f xs i x y e h))
