-- The states in which the orders that begin in a team leave the object.
use Rattle.std.specs.Prelude.{◌≡◌, ℕ, List, length}
use Rattle.cn_table.specs.TypeTable.{TypeTable}
use Rattle.cn_table.specs.Run.{state_after}
use Rattle.cn_choice.specs.declared.team.Team.{Team}
use Rattle.cn_choice.specs.RawChoices.{RawChoice}
use Rattle.cn_choice.specs.Orders.{IsOrder}
use Rattle.cn_choice.specs.OutcomeSets.{BeginsIn, operations_of}

-- some order that begins in the team, run from the start state, leaves the object in this state
abbrev pub LeavesIn : TypeTable → RawChoice → Team → ℕ → Type 0
LeavesIn t c team state =
    (order : List ℕ) × IsOrder (length c.operations) order × BeginsIn c team order
    × (state_after t c.state (operations_of c order) ≡ state)
