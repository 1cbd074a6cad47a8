-- Where an operation leads that is done any number of times.
use Rattle.std.specs.Prelude.{◌≡◌, ℕ, ◌∷◌, replicate}
use Rattle.cn_table.specs.TypeTable.{TypeTable}
use Rattle.cn_table.specs.Run.{state_after}

-- the operation, any number of times, leads to the state from one of these
abbrev pub Onward : TypeTable → ℕ → (ℕ → Type 0) → ℕ → Type 0
Onward t many from q =
    (found : ℕ) × from found × ((k : ℕ) × (state_after t found (replicate k many) ≡ q))

-- the first operation, and then the other any number of times, lead to the state from one of these
abbrev pub FirstOnward : TypeTable → ℕ → ℕ → (ℕ → Type 0) → ℕ → Type 0
FirstOnward t first many from q =
    (found : ℕ) × from found × ((k : ℕ) × (state_after t found (first ∷ replicate k many) ≡ q))
