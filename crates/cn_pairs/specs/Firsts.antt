-- The first elements of a list for which something holds.
use Rattle.std.specs.Prelude.{◌≡◌, ℕ, zero, suc, ◌⊎◌, List, [], ◌∷◌}

-- those elements for which P holds, in their order, and no more than so many of the first
abbrev pub AreFirstWith : {X : Type 0} → (X → Type 0) → ℕ → List X → List X → Type 0
AreFirstWith P zero xs found = found ≡ []
AreFirstWith P (suc most) [] found = found ≡ []
AreFirstWith {X} P (suc most) (x ∷ xs) found =
    (P x × (rest : List X) × (found ≡ x ∷ rest) × AreFirstWith P most xs rest)
    ⊎ ((¬ P x) × AreFirstWith P (suc most) xs found)
