-- One operation of each row: of those that lead from each state to the same one, whatever their
-- responses are.
use Rattle.std.specs.Prelude.{◌≡◌, ℕ, ◌<◌, List, length, AllPairs, Contains}
use Rattle.cn_table.specs.Restriction.{AreOperations, with_operations}
use Rattle.cn_table.specs.TypeTable.{TypeTable}
use Rattle.cn_telling.specs.Rows.{HaveOneRow}

-- the operation has the row of one of these
abbrev pub HasRowOf : TypeTable → List ℕ → ℕ → Type 0
HasRowOf t operations o = (p : ℕ) × Contains operations p × HaveOneRow t o p

-- each operation of the type has the row of one of these
abbrev pub HaveEachRow : TypeTable → List ℕ → Type 0
HaveEachRow t operations = (o : ℕ) → o < length t.operations → HasRowOf t operations o

-- operations of the type, one of each row
pub record AreOfEachRow (t : TypeTable) (operations : List ℕ) : Type 0 where
  pub are : AreOperations t operations
  pub each : HaveEachRow t operations
  pub differ : AllPairs (λ x y. ¬ HaveOneRow t x y) operations

-- the type with one operation of each row alone
abbrev pub IsByRows : TypeTable → TypeTable → Type 0
IsByRows t u =
    (operations : List ℕ) × AreOfEachRow t operations × (u ≡ with_operations t operations)
