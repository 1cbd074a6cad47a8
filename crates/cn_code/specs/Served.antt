-- The object that a program serves.
use Rattle.std.specs.Prelude.{ℕ}
use Rattle.cn_table.specs.TypeTable.{TypeTable}

-- an object, and the state in which it starts
pub record Served : Type 0 where
  pub table : TypeTable
  pub start : ℕ

abbrev pub served_of : TypeTable → ℕ → Served
served_of table start = record { table = table; start = start }
