-- The faults of joins as evidence that a type is not n-discerning.
use Rattle.std.specs.Prelude.{◌≡◌, ℕ, List}
use Rattle.cn_table.specs.TypeTable.{TypeTable}
use Rattle.cn_joins.specs.Joins.{Join}
use Rattle.cn_stock_check.specs.Faults.{ComesSooner, IsLeftOpen, IsOtherJoin, NoticesItselfSomewhere}
use Rattle.cn_stock_check.specs.declared.fault.StockCheckFault.{StockCheckFault}
use Rattle.cn_stock_check.specs.declared.fault.StockCheckFault.TheVariants as fault

-- the joins have the fault, as evidence against n
abbrev pub HasJoinFault : TypeTable → ℕ → List Join → StockCheckFault → Type 0
HasJoinFault t n joins (fault.NotAJoin i) = IsOtherJoin t joins i
HasJoinFault t n joins (fault.NoticesItself o) = (n ≡ 2) × NoticesItselfSomewhere t o
HasJoinFault t n joins (fault.NotConnected q) = IsLeftOpen t n joins q
HasJoinFault t n joins fault.OtherType = ⊥
HasJoinFault t n joins fault.BadNumber = ⊥
HasJoinFault t n joins fault.LeastShape = ⊥
HasJoinFault t n joins fault.NotAChoice = ⊥
HasJoinFault t n joins fault.NoWitness = ⊥
HasJoinFault t n joins fault.NotLasting = ⊥
HasJoinFault t n joins fault.MostShape = ⊥
HasJoinFault t n joins fault.OutOfMemory = ⊥

-- they have the fault, and none for which the check looks sooner
pub record IsFirstJoinFault (t : TypeTable) (n : ℕ) (joins : List Join)
    (e : StockCheckFault) : Type 0 where
  pub holds : HasJoinFault t n joins e
  pub first : (f : StockCheckFault) → ComesSooner f e → ¬ HasJoinFault t n joins f
