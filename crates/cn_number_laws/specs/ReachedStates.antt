-- The states that are reached from one start state.
use Rattle.std.specs.Prelude.{ℕ, List, Contains}
use Rattle.cn_table.specs.Reach.{Leads}
use Rattle.cn_table.specs.TypeTable.{TypeTable}

-- the list has each state to which operations of the type lead from the start state, and it too
abbrev pub HasReached : TypeTable → ℕ → List ℕ → Type 0
HasReached t start states = (q : ℕ) → Leads t start q → Contains states q
