-- Lists each element of which is told of the element in its place.
use Rattle.std.proofs.Common.{◌≡◌, List, [], ◌∷◌, All, map, refl}
use Rattle.std.specs.List.{AllByRecursion, AllZip}
use Rattle.std.proofs.lemmas.List.Elements.{All-from_recursion}

module _ {X Y : Type 0} (of : Y → X) (P : Y → Type 0) where
  pub listed_of : (xs : List X) (ys : List Y) → AllZip (λ x y. (of y ≡ x) × P y) xs ys → map of ys ≡ xs
  listed_of [] [] h = refl
  listed_of [] (y ∷ ys) h = absurd h
  listed_of (x ∷ xs) [] h = absurd h
  listed_of (x ∷ xs) (y ∷ ys) h = let first : of y ≡ x = h.0.0 in let rest : map of ys ≡ xs = listed_of xs ys h.1 in rw (first, rest) refl

  each_of : (xs : List X) (ys : List Y) → AllZip (λ x y. (of y ≡ x) × P y) xs ys → AllByRecursion P ys
  each_of [] [] h = tt
  each_of [] (y ∷ ys) h = absurd h
  each_of (x ∷ xs) [] h = absurd h
  each_of (x ∷ xs) (y ∷ ys) h = (h.0.1, each_of xs ys h.1)

  pub all_of : (xs : List X) (ys : List Y) → AllZip (λ x y. (of y ≡ x) × P y) xs ys → All P ys
  all_of xs ys h = All-from_recursion P ys (each_of xs ys h)
