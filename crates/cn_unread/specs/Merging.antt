-- Merging states that no responses tell apart.
-- Source: Moore, Gedanken-experiments on sequential machines, 1956.
use Rattle.std.specs.Prelude.{◌≡◌, ℕ, ◌<◌, length}
use Rattle.cn_table.specs.TypeTable.{TypeTable, transition}

-- h maps the states of t to states of u: each operation gets the same response, and leads to the
-- state to which the next state is mapped
pub record Merges (h : ℕ → ℕ) (t u : TypeTable) : Type 0 where
  pub same_operations : length t.operations ≡ length u.operations
  pub known : (q : ℕ) → q < length t.states → h q < length u.states
  pub same_response : (o q : ℕ) → o < length t.operations → q < length t.states
      → (transition u o (h q)).0 ≡ (transition t o q).0
  pub same_next : (o q : ℕ) → o < length t.operations → q < length t.states
      → (transition u o (h q)).1 ≡ h (transition t o q).1

-- the states of t are merged to those of u: each state of u stands for some states of t
pub record IsMerged (h : ℕ → ℕ) (t u : TypeTable) : Type 0 where
  pub merges : Merges h t u
  pub reached : (s : ℕ) → s < length u.states → (q : ℕ) × (q < length t.states) × (h q ≡ s)
