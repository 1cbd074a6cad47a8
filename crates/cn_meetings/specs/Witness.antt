-- Witnesses: divisions of the processes of a meeting into teams, of any number.
-- Source: Ruppert, Determining consensus numbers, 2000: two teams. More teams are new here.
use Rattle.std.specs.Prelude.{ℕ, ◌≡◌, ◌≢◌, Bool, true, List, [], ◌∷◌, AllPairs, slice_get, Some}
use Rattle.cn_table.specs.TypeTable.{TypeTable}
use Rattle.cn_proto.specs.Order.{after, IsAnswered}
use Rattle.cn_meetings.specs.Meeting.{Meeting, act, see}

-- the process is one of these
abbrev pub Has : (ℕ → Bool) → ℕ → Type 0
Has processes p = processes p ≡ true

-- an order of distinct members
pub record IsOrderOf (processes : ℕ → Bool) (order : List ℕ) : Type 0 where
  pub distinct : AllPairs (λ (x : ℕ) y. x ≢ y) order
  pub members : (k p : ℕ) → slice_get order k ≡ Some p → Has processes p

-- the first process of the order is in the team
abbrev pub BeginsIn : (ℕ → ℕ) → ℕ → List ℕ → Type 0
BeginsIn team side [] = ⊥
BeginsIn team side (p ∷ order) = team p ≡ side

-- where members move in this order, process p gets the response, and sees this of the last state
pub record IsShown (t : TypeTable) (M : Meeting) (processes : ℕ → Bool) (order : List ℕ)
    (p response saw : ℕ) : Type 0 where
  pub is_order : IsOrderOf processes order
  pub answered : IsAnswered (act t M) M.start order p response
  pub last_state : see t M p (after (act t M) M.start order) ≡ saw

-- the members are in these teams, and no process is shown the same by orders that begin in
-- different teams
abbrev pub IsTeamWitness : TypeTable → Meeting → (ℕ → Bool) → (ℕ → ℕ) → Type 0
IsTeamWitness t M processes team = (g h p response saw : ℕ) (alpha beta : List ℕ)
    → IsShown t M processes alpha p response saw → IsShown t M processes beta p response saw
    → BeginsIn team g alpha → BeginsIn team h beta → g ≡ h

-- each process judges by what it is shown, and is right about the team that came first
abbrev pub JudgesRight : TypeTable → Meeting → (ℕ → Bool) → (ℕ → ℕ) → (ℕ → ℕ → ℕ → ℕ) → Type 0
JudgesRight t M processes team judge = (g p response saw : ℕ) (order : List ℕ)
    → IsShown t M processes order p response saw → BeginsIn team g order → judge p response saw ≡ g
