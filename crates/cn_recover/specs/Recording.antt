-- Recording witnesses, of which the state alone tells for good which team moved first, and the
-- numbers of processes for which a type has one.
use Rattle.std.specs.Prelude.{◌≡◌, ◌≢◌, ℕ, ◌<◌, length, slice_get, Option, Some}
use Rattle.cn_table.specs.TypeTable.{TypeTable}
use Rattle.cn_choice.specs.declared.team.Team.{Team}
use Rattle.cn_choice.specs.declared.team.Team.TheVariants.{A, B}
use Rattle.cn_choice.specs.RawChoices.{RawChoice, IsRawChoice}
use Rattle.cn_choice.specs.GreatestNumbers.{IsGreatestUpTo}
use Rattle.cn_outcomes.specs.LeftStates.{LeavesIn}
use Rattle.cn_search.specs.Numbers.{IsNumberOf}
use Rattle.cn_search.specs.declared.exact.ConsensusNumber.{ConsensusNumber}

-- two processes are in the team
abbrev pub HasTwo : RawChoice → Team → Type 0
HasTwo c team =
    (i : ℕ) × (j : ℕ) × (i ≢ j) × (i < length c.operations) × (j < length c.operations)
    × (slice_get c.marks i ≡ Some team) × (slice_get c.marks j ≡ Some team)

-- no state is left both by an order that begins in A and by one that begins in B; if B has two
-- members, no order that begins in A leaves the start state; if A has two, none that begins in B
-- does
pub record IsRecordingWitness (t : TypeTable) (c : RawChoice) : Type 0 where
  pub apart : (state : ℕ) → LeavesIn t c A state → ¬ LeavesIn t c B state
  pub no_way_back_a : HasTwo c B → ¬ LeavesIn t c A c.state
  pub no_way_back_b : HasTwo c A → ¬ LeavesIn t c B c.state

-- the type is n-recording: some raw choice for n processes is a recording witness
abbrev pub IsRecording : TypeTable → ℕ → Type 0
IsRecording t n = (c : RawChoice) × IsRawChoice t n c × IsRecordingWitness t c

-- the recoverable number: the greatest n from 2 to the limit for which the type is n-recording, or
-- none if there is no such n
abbrev pub IsRecoverableNumberUpTo : TypeTable → ℕ → Option ℕ → Type 0
IsRecoverableNumberUpTo t = IsGreatestUpTo (IsRecording t)

-- the recoverable number with no limit
abbrev pub HasRecoverableNumber : TypeTable → ConsensusNumber → Type 0
HasRecoverableNumber t number = IsNumberOf (IsRecording t) (length t.states) number

-- process m of c, which is in the team, is none of those of d: process i of d is process f i of c
pub record Misses (f : ℕ → ℕ) (d c : RawChoice) (team : Team) : Type 0 where
  pub process : ℕ
  pub inside : process < length c.operations
  pub team_is : slice_get c.marks process ≡ Some team
  pub apart : (i : ℕ) → i < length d.operations → f i ≢ process
