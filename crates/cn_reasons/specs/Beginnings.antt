-- The beginnings of orders, and how they go on.
use Rattle.std.specs.Prelude.{◌≡◌, ℕ, ◌+◌, ◌<◌, ◌≤◌, ◌⊎◌, ◌↔◌, List, [], ◌∷◌, ◌++◌, length, slice_get}
use Rattle.std.specs.Prelude.{Contains, IsBitSet, Some}
use Rattle.std.specs.Ordering.{nat_cmp}
use Rattle.std.specs.declared.cmp.Ordering.TheVariants.{Less}
use Rattle.std.specs.Cmp.Lexicographic.{slice_cmp}
use Rattle.cn_table.specs.Run.{state_after}
use Rattle.cn_choice.specs.Orders.{IsOrder}
use Rattle.cn_choice.specs.OutcomeSets.{BeginsIn, operations_of}
use Rattle.cn_choice.specs.RawChoices.{IsRawChoice, RawChoice}
use Rattle.cn_choice.specs.declared.limits.TheConstants.{MOST_PROCESSES}
use Rattle.cn_choice.specs.declared.team.Team.{Team}
use Rattle.cn_outcomes.specs.Twins.{AreTwins}
use Rattle.cn_reasons.specs.NotRecording.{Leaves}
use Rattle.cn_reasons.specs.Onward.{AreOnward}
use Rattle.cn_reasons.specs.declared.first_order.Aim.{Aim}

-- the choice is one of the table, and the state is one of its states
pub record IsAim (a : Aim) : Type 0 where
  pub fits : IsRawChoice a.table.now (length a.choice.now.operations) a.choice.now
  pub few : length a.choice.now.operations ≤ MOST_PROCESSES
  pub onward : AreOnward a.table.now a.onward.now
  pub known : a.state.0 < length a.table.now.states

-- no process has moved, or these have in an order of the team; they are those of the set, and leave
-- the state
pub record IsBeginning (a : Aim) (order : List ℕ) (used state : ℕ) : Type 0 where
  pub is : (order ≡ []) ⊎ (IsOrder (length a.choice.now.operations) order
      × BeginsIn a.choice.now a.team order)
  pub moved : (p : ℕ) → IsBitSet used p ↔ Contains order p
  pub known : state < length a.table.now.states
  pub state_is : state ≡ state_after a.table.now a.choice.now.state (operations_of a.choice.now order)

-- the order goes on with these processes to the state of the aim
abbrev pub GoesOn : Aim → List ℕ → List ℕ → Type 0
GoesOn a order rest = Leaves a.table.now a.choice.now a.team a.state.0 (order ++ rest)

-- it goes on so with no list of so many processes
abbrev pub NoRest : Aim → ℕ → List ℕ → Type 0
NoRest a count order = (rest : List ℕ) → length rest ≡ count → ¬ GoesOn a order rest

-- the first list of so many processes with which it does, in lexicographic order
pub record IsFirstRest (a : Aim) (count : ℕ) (order rest : List ℕ) : Type 0 where
  pub long : length rest ≡ count
  pub goes_on : GoesOn a order rest
  pub first : (other : List ℕ) → length other ≡ count → slice_cmp nat_cmp other rest ≡ Less
      → ¬ GoesOn a order other

-- the process has moved, or it is the first to move and in the other team, or its twin before it
-- has not moved
abbrev pub IsPassed : Aim → ℕ → ℕ → Type 0
IsPassed a used p = IsBitSet used p
    ⊎ (((used ≡ 0) × ¬ (slice_get a.choice.now.marks p ≡ Some a.team))
    ⊎ ((before : ℕ) × (p ≡ before + 1) × AreTwins a.choice.now before × ¬ IsBitSet used before))

-- the process can move next
abbrev pub IsFree : Aim → ℕ → ℕ → Type 0
IsFree a used p = ¬ IsBitSet used p
    × (used ≡ 0 → slice_get a.choice.now.marks p ≡ Some a.team)
