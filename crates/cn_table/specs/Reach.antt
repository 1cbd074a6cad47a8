-- Where the operations of a type lead.
use Rattle.std.specs.Prelude.{◌≡◌, ◌↔◌, ℕ, ◌<◌, ◌+◌, ◌==◌, ◌&&◌, List, [], ◌∷◌, length, get_or}
use Rattle.std.specs.Prelude.{Bool, true, false, slice_index_or}
use Rattle.std.specs.List.{AllByRecursion}
use Rattle.cn_table.specs.TypeTable.{TypeTable, no_row}
use Rattle.cn_table.specs.Run.{state_after}

-- operations of the type, one after the other, lead from one state to the other
pub record Leads (t : TypeTable) (from to : ℕ) : Type 0 where
  pub operations : List ℕ
  pub known : AllByRecursion (λ o. o < length t.operations) operations
  pub last : state_after t from operations ≡ to

-- for each state, whether operations lead to it from the first
abbrev pub AreReached : TypeTable → List Bool → Type 0
AreReached t reached = (q : ℕ) → q < length t.states → (get_or reached q false ≡ true) ↔ Leads t 0 q

-- each element is its own place, counted from this number
abbrev pub is_in_place : ℕ → List ℕ → Bool
is_in_place i [] = true
is_in_place i (q ∷ qs) = (q == i) && is_in_place (i + 1) qs

-- the operation leads from each state to itself
abbrev pub changes_nothing : TypeTable → ℕ → Bool
changes_nothing t o = is_in_place 0 (slice_index_or t.operations o no_row).next
