-- The states that orders of operations that last leave, by what came first.
use Rattle.std.specs.Prelude.{ℕ}
use Rattle.cn_table.specs.TypeTable.{TypeTable}
use Rattle.cn_stocks.specs.Lasting.{Lasts, ManyFirst, SingleFirst}
use Rattle.cn_stocks.specs.declared.lasting.search.Lasting.{Lasting}
use Rattle.cn_stocks.specs.declared.lasting.search.First.{First}
use Rattle.cn_stocks.specs.declared.lasting.search.First.TheVariants.{Single, Many}

-- these are a state and two operations of the type that last from it
abbrev pub IsLasting : TypeTable → Lasting → Type 0
IsLasting t l = Lasts t l.start.0 l.many.0 l.single.0

-- an order in which this came first leaves the state; where nobody has moved yet, the single
-- operation did not come first
abbrev pub Leaves : TypeTable → Lasting → First → ℕ → Type 0
Leaves t l Single q = SingleFirst t l.start.0 l.many.0 l.single.0 q
Leaves t l Many q = ManyFirst t l.start.0 l.many.0 l.single.0 q
