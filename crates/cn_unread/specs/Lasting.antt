-- Responses that tell for good which of two operations was first. New here.
use Rattle.std.specs.Prelude.{◌≡◌, ◌≢◌, ◌⊎◌, ℕ, ◌<◌, ◌∷◌, ◌++◌, length, replicate}
use Rattle.cn_table.specs.Run.{state_after}
use Rattle.cn_table.specs.TypeTable.{TypeTable, transition}

-- one of the operation `many` gets the response where the single one has moved first
abbrev pub SingleBefore : TypeTable → ℕ → ℕ → ℕ → ℕ → Type 0
SingleBefore t start many single r =
    (k : ℕ) × ((transition t many (state_after t start (single ∷ replicate k many))).0 ≡ r)

-- one of the operation `many` gets the response where another or itself has moved first
abbrev pub ManyBefore : TypeTable → ℕ → ℕ → ℕ → ℕ → Type 0
ManyBefore t start many single r =
    ((k : ℕ) × ((transition t many (state_after t start (replicate k many))).0 ≡ r))
    ⊎ ((i : ℕ) × (k : ℕ) × ((transition t many
    (state_after t start (many ∷ replicate i many ++ single ∷ replicate k many))).0 ≡ r))

-- responses tell for good whether the single operation was first, where one process does it and any
-- number of processes do the other
pub record LastsByResponses (t : TypeTable) (start many single : ℕ) : Type 0 where
  pub start_known : start < length t.states
  pub many_known : many < length t.operations
  pub single_known : single < length t.operations
  pub single_apart : (k : ℕ)
      → (transition t single (state_after t start (many ∷ replicate k many))).0
      ≢ (transition t single start).0
  pub many_apart : (r : ℕ) → SingleBefore t start many single r
      → ¬ ManyBefore t start many single r
