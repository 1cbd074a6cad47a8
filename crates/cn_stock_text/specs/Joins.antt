-- A join in words: its two runs, and the operations that it joins.
use Rattle.std.specs.Prelude.{ℕ, ◌+◌, ◌==◌, List, [], ◌∷◌, ◌++◌, codes, Bool, if◌then◌else◌}
use Rattle.std.specs.List.{concat}
use Rattle.cn_table.specs.Names.{name_at}
use Rattle.cn_table.specs.Run.{state_after}
use Rattle.cn_table.specs.TypeTable.{TypeTable, operation_names, transition}
use Rattle.cn_joins.specs.Joins.{Join, PlacedWord, beginning}
use Rattle.cn_stock_text.specs.Names.{listed_operation}

-- the response of the operation that is asked
abbrev pub answer_text : TypeTable → Bool → ℕ → List ℕ
answer_text t asked response = if asked then codes "/" ++ name_at t.responses response else []

-- an operation, and its response if it is the one that is asked
abbrev pub step_text : TypeTable → Bool → ℕ → ℕ → List ℕ
step_text t asked o response = listed_operation t o ++ answer_text t asked response

-- operations that are applied from a state, the first of them as number k; the one at the place is
-- asked
abbrev pub steps_text : TypeTable → ℕ → ℕ → ℕ → List ℕ → List ℕ
steps_text t place k state [] = []
steps_text t place k state (o ∷ os) =
    step_text t (k == place) o (transition t o state).0
    ++ steps_text t place (k + 1) (transition t o state).1 os

-- the run of a word
abbrev pub run_text : TypeTable → ℕ → PlacedWord → List ℕ
run_text t start w = steps_text t w.place 0 start w.word

-- the state that both runs leave, and the operations with which they begin
abbrev pub joined_text : TypeTable → ℕ → ℕ → ℕ → List ℕ
joined_text t left f g =
    concat (codes " both leave " ∷ name_at t.states left ∷ codes ": "
    ∷ name_at (operation_names t) f ∷ codes " and " ∷ name_at (operation_names t) g
    ∷ codes " are in one team\n" ∷ [])

-- the line of a join
abbrev pub join_line : TypeTable → Join → List ℕ
join_line t j =
    concat (codes "  from " ∷ name_at t.states j.start ∷ codes ":" ∷ run_text t j.start j.first
    ∷ codes " and" ∷ run_text t j.start j.second
    ∷ joined_text t (state_after t j.start j.first.word) (beginning j.first) (beginning j.second)
    ∷ [])
