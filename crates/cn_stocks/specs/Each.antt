-- What holds of each element of a list of known length, by its place.
use Rattle.std.specs.Prelude.{◌≡◌, ℕ, List, length, slice_get, Some}

-- the list has so many elements, and this holds of each place and the element there
abbrev pub EachAt : {X : Type 0} → (ℕ → X → Type 0) → ℕ → List X → Type 0
EachAt P count xs = (length xs ≡ count) × ((i : ℕ) (x : _) → slice_get xs i ≡ Some x → P i x)
