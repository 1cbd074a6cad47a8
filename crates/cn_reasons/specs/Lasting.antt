-- Two operations that last, with the states that they leave.
use Rattle.std.specs.Prelude.{◌≡◌}
use Rattle.cn_table.specs.TypeTable.{TypeTable}
use Rattle.cn_stocks.specs.Leaving.{Leaves}
use Rattle.cn_stocks.specs.declared.lasting.search.First.TheVariants.{Single, Many}
use Rattle.cn_stocks.specs.declared.lasting.search.Lasting.{Lasting}
use Rattle.cn_reasons.specs.States.{AreStates}
use Rattle.cn_reasons.specs.declared.lasting.LastingWitness.{LastingWitness}

-- the operations with the states that orders leave, by what came first
pub record IsLastingWitnessOf (t : TypeTable) (l : Lasting) (w : LastingWitness) : Type 0 where
  pub lasting : w.lasting ≡ l
  pub single_states : AreStates (Leaves t l Single) w.single_states.items
  pub many_states : AreStates (Leaves t l Many) w.many_states.items
