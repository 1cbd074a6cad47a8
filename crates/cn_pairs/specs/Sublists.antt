-- The sublists of a list.
use Rattle.std.specs.Prelude.{ℕ, zero, suc, List, [], ◌∷◌, ◌++◌, map}

-- the sublists of so many elements, in lexicographic order of the places of their elements
abbrev pub sublists : ℕ → List ℕ → List (List ℕ)
sublists zero xs = [] ∷ []
sublists (suc k) [] = []
sublists (suc k) (x ∷ xs) = map (λ rest. x ∷ rest) (sublists k xs) ++ sublists (suc k) xs
