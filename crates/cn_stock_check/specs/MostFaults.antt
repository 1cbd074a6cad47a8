-- The faults of the joins for an upper bound.
use Rattle.std.specs.Prelude.{◌≡◌, ℕ, ◌+◌, List, Option, Some, IsSomeAnd}
use Rattle.cn_table.specs.TypeTable.{TypeTable}
use Rattle.cn_joins.specs.Joins.{Join}
use Rattle.cn_stock_check.specs.Faults.{AreThereFor, ComesSooner, IsLeftOpen, IsOtherJoin, NoticesItselfSomewhere}
use Rattle.cn_stock_check.specs.declared.fault.StockCheckFault.{StockCheckFault}
use Rattle.cn_stock_check.specs.declared.fault.StockCheckFault.TheVariants as fault

-- the joins have the fault, for the bound
abbrev pub HasMostFault : TypeTable → Option (List Join) → Option ℕ → StockCheckFault → Type 0
HasMostFault t most bound fault.MostShape = ¬ AreThereFor most bound
HasMostFault t most bound (fault.NotAJoin i) = IsSomeAnd most (λ joins. IsOtherJoin t joins i)
HasMostFault t most bound (fault.NoticesItself o) = (bound ≡ Some 1) × NoticesItselfSomewhere t o
HasMostFault t most bound (fault.NotConnected q) =
    IsSomeAnd most (λ joins. IsSomeAnd bound (λ m. IsLeftOpen t (m + 1) joins q))
HasMostFault t most bound fault.OtherType = ⊥
HasMostFault t most bound fault.BadNumber = ⊥
HasMostFault t most bound fault.LeastShape = ⊥
HasMostFault t most bound fault.NotAChoice = ⊥
HasMostFault t most bound fault.NoWitness = ⊥
HasMostFault t most bound fault.NotLasting = ⊥
HasMostFault t most bound fault.OutOfMemory = ⊥

-- they have the fault, and none for which the check looks sooner
pub record IsFirstMostFault (t : TypeTable) (most : Option (List Join)) (bound : Option ℕ)
    (e : StockCheckFault) : Type 0 where
  pub holds : HasMostFault t most bound e
  pub first : (f : StockCheckFault) → ComesSooner f e → ¬ HasMostFault t most bound f
