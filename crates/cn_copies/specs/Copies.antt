-- Operations that do the same as others.
use Rattle.std.specs.Prelude.{◌≡◌, ◌↔◌, ℕ, ◌<◌, List, length, Contains}
use Rattle.cn_table.specs.Restriction.{AreOperations, with_operations}
use Rattle.cn_table.specs.TypeTable.{TypeTable, transition}

-- the two operations do the same in each state of the type
abbrev pub AreCopies : TypeTable → ℕ → ℕ → Type 0
AreCopies t o p = (q : ℕ) → q < length t.states → transition t o q ≡ transition t p q

-- an earlier operation does the same
abbrev pub IsCopy : TypeTable → ℕ → Type 0
IsCopy t o = (p : ℕ) × (p < o) × AreCopies t p o

-- the operations of the type that are no copies of earlier ones, in their order
pub record AreFirst (t : TypeTable) (operations : List ℕ) : Type 0 where
  pub are : AreOperations t operations
  pub each : (o : ℕ) → Contains operations o ↔ ((o < length t.operations) × ¬ IsCopy t o)

-- each operation of the type does the same as one of these
abbrev pub HasCopies : TypeTable → List ℕ → Type 0
HasCopies t operations =
    (o : ℕ) → o < length t.operations → (p : ℕ) × Contains operations p × AreCopies t o p

-- the type without copies of earlier operations
abbrev pub IsWithoutCopies : TypeTable → TypeTable → Type 0
IsWithoutCopies t u =
    (operations : List ℕ) × AreFirst t operations × (u ≡ with_operations t operations)
