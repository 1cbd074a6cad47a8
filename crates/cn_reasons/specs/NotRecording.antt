-- Why a choice is no recording witness: a state that orders of both teams leave, or an order of one
-- team that leaves the start state although two processes of the other team have not moved.
use Rattle.std.specs.Prelude.{◌≡◌, ℕ, ◌<◌, ◌⊎◌, List, [], length}
use Rattle.cn_table.specs.TypeTable.{TypeTable}
use Rattle.cn_table.specs.Run.{state_after}
use Rattle.cn_choice.specs.Orders.{ComesBefore, IsOrder}
use Rattle.cn_choice.specs.OutcomeSets.{BeginsIn, operations_of}
use Rattle.cn_choice.specs.RawChoices.{RawChoice}
use Rattle.cn_choice.specs.declared.team.Team.{Team}
use Rattle.cn_choice.specs.declared.team.Team.TheVariants.{A, B}
use Rattle.cn_outcomes.specs.LeftStates.{LeavesIn}
use Rattle.cn_recover.specs.Recording.{HasTwo}
use Rattle.cn_reasons.specs.declared.reason.Reason.{Reason}

-- the order begins in the team, and leaves the state
pub record Leaves (t : TypeTable) (c : RawChoice) (team : Team) (state : ℕ) (order : List ℕ)
    : Type 0 where
  pub is : IsOrder (length c.operations) order
  pub begins : BeginsIn c team order
  pub ends : state_after t c.state (operations_of c order) ≡ state

-- the first order of the team, in list order, that leaves the state
pub record IsFirstOrder (t : TypeTable) (c : RawChoice) (team : Team) (state : ℕ) (order : List ℕ)
    : Type 0 where
  pub leaves : Leaves t c team state order
  pub first : (other : List ℕ) → ComesBefore other order → ¬ Leaves t c team state other

-- orders of both teams leave the state
abbrev pub BothLeave : TypeTable → RawChoice → ℕ → Type 0
BothLeave t c state = LeavesIn t c A state × LeavesIn t c B state

-- an order of team A leaves the start state, and team B has two members; and so for team B
abbrev pub HasWayBack : TypeTable → RawChoice → Team → Type 0
HasWayBack t c A = HasTwo c B × LeavesIn t c A c.state
HasWayBack t c B = HasTwo c A × LeavesIn t c B c.state

-- the state is the least that orders of both teams leave, by the first orders of each team
pub record IsCommon (t : TypeTable) (c : RawChoice) (r : Reason) : Type 0 where
  pub alpha : IsFirstOrder t c A r.state.0 r.alpha.items
  pub beta : IsFirstOrder t c B r.state.0 r.beta.items
  pub least : (q : ℕ) → q < r.state.0 → ¬ BothLeave t c q

-- the first order of team A that leaves the start state, and no step
pub record IsWayBackOfA (t : TypeTable) (c : RawChoice) (r : Reason) : Type 0 where
  pub start : r.state.0 ≡ c.state
  pub two : HasTwo c B
  pub alpha : IsFirstOrder t c A c.state r.alpha.items
  pub no_step : r.beta.items ≡ []

-- the first order of team B that leaves the start state, and no step
pub record IsWayBackOfB (t : TypeTable) (c : RawChoice) (r : Reason) : Type 0 where
  pub start : r.state.0 ≡ c.state
  pub two : HasTwo c A
  pub beta : IsFirstOrder t c B c.state r.beta.items
  pub no_step : r.alpha.items ≡ []

-- no state is common, and there is a way back of team A, or else of team B
pub record IsBack (t : TypeTable) (c : RawChoice) (r : Reason) : Type 0 where
  pub apart : (q : ℕ) → ¬ BothLeave t c q
  pub way : IsWayBackOfA t c r ⊎ (IsWayBackOfB t c r × ¬ HasWayBack t c A)

-- the first reason why the choice is no recording witness: a state that orders of both teams leave;
-- else a way back of team A to the start state; else one of team B
abbrev pub IsReason : TypeTable → RawChoice → Reason → Type 0
IsReason t c r = IsCommon t c r ⊎ IsBack t c r
