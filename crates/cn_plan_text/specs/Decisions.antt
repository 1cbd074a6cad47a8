-- The lines of the decisions of processes.
use Rattle.std.specs.Prelude.{ℕ, ◌+◌, List, [], ◌∷◌, ◌++◌, codes, decimal, Option, Some, None}
use Rattle.std.specs.List.{concat}

-- the decision of process p, or that it is undecided
abbrev pub decision_line : ℕ → Option ℕ → List ℕ
decision_line p None = concat (decimal p ∷ codes ": undecided\n" ∷ [])
decision_line p (Some v) = concat (decimal p ∷ codes ": " ∷ decimal v ∷ codes "\n" ∷ [])

-- a line for each process, from process p on
abbrev pub decision_lines : ℕ → List (Option ℕ) → List ℕ
decision_lines p [] = []
decision_lines p (d ∷ ds) = decision_line p d ++ decision_lines (p + 1) ds
