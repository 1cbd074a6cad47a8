-- All silent operations of a type.
use Rattle.std.specs.Prelude.{ℕ, ◌<◌, ◌↔◌, List, AllPairs, Contains}
use Rattle.cn_table.specs.TypeTable.{TypeTable}
use Rattle.cn_unread.specs.Views.{IsSilent}

-- the list has exactly the silent operations of the type, ascending
pub record AreSilentOperations (t : TypeTable) (list : List ℕ) : Type 0 where
  pub listed : (v : ℕ) → Contains list v ↔ IsSilent t v
  pub ascending : AllPairs (λ (v w : ℕ). v < w) list
