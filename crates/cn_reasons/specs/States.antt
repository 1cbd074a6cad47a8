-- Sets of states, as lists.
use Rattle.std.specs.Prelude.{ℕ, ◌<◌, ◌↔◌, List, map, AllPairs, Contains}
use Rattle.cn_table.specs.declared.elements.State.{State}

-- their numbers
abbrev pub numbers_of : List State → List ℕ
numbers_of states = map (λ state. state.0) states

-- the states that have a property, ascending
pub record AreStates (P : ℕ → Type 0) (states : List State) : Type 0 where
  pub listed : (q : ℕ) → Contains (numbers_of states) q ↔ P q
  pub ascending : AllPairs (λ q p. q < p) (numbers_of states)
