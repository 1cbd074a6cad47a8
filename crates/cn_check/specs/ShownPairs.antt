-- The pair that an order shows to a process.
use Rattle.std.specs.Prelude.{◌≡◌, ℕ, List, length, Some}
use Rattle.cn_table.specs.TypeTable.{TypeTable}
use Rattle.cn_choice.specs.declared.team.Team.{Team}
use Rattle.cn_choice.specs.RawChoices.{RawChoice}
use Rattle.cn_choice.specs.Orders.{IsOrder}
use Rattle.cn_choice.specs.OutcomeSets.{BeginsIn, pair_of}

-- the list is an order of the choice's processes, begins in the team, and shows the pair to process
-- j
abbrev pub Shows : TypeTable → RawChoice → Team → ℕ → ℕ × ℕ → List ℕ → Type 0
Shows t c team j pair order =
    IsOrder (length c.operations) order × BeginsIn c team order × (pair_of t c order j ≡ Some pair)
