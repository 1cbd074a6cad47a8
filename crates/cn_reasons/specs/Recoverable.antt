-- What an explanation of a recoverable number tells, as one value.
use Rattle.std.specs.Prelude.{◌≡◌, ◌≢◌, ℕ, ◌+◌, ◌<◌, ◌≤◌, ◌↔◌, length, min, slice_get, Bool}
use Rattle.std.specs.Prelude.{Option, Some, None, IfSome, MatchOption}
use Rattle.cn_table.specs.TypeTable.{TypeTable}
use Rattle.cn_choice.specs.Canonical.{Choice, raw_choice_of}
use Rattle.cn_choice.specs.Live.{live_choices}
use Rattle.cn_choice.specs.RawChoices.{RawChoice}
use Rattle.cn_choice.specs.declared.team.Team.{Team}
use Rattle.cn_choice.specs.declared.team.Team.TheVariants.{A, B}
use Rattle.cn_outcomes.specs.LeftStates.{LeavesIn}
use Rattle.cn_finding.specs.Evidence.{IsFirst}
use Rattle.cn_search.specs.GreatestLimit.{IsGreatestLimit}
use Rattle.cn_search.specs.declared.exact.ConsensusNumber.{ConsensusNumber}
use Rattle.cn_search.specs.declared.exact.ConsensusNumber.TheVariants.{Finite, Infinite}
use Rattle.cn_recover.specs.Recording.{HasRecoverableNumber, IsRecordingWitness}
use Rattle.cn_reasons.specs.Groups.{choice_groups}
use Rattle.cn_reasons.specs.Known.{IsKnownRecording, IsKnownRecoverableWay, IsKnownRefutation}
use Rattle.cn_reasons.specs.NotRecording.{IsReason}
use Rattle.cn_reasons.specs.Refutations.{IsRefutationOf}
use Rattle.cn_reasons.specs.Runs.{runs_of}
use Rattle.cn_reasons.specs.States.{AreStates}
use Rattle.cn_reasons.specs.declared.reason.Reason.{Reason}
use Rattle.cn_reasons.specs.declared.reasons.RecoverableWay.{RecoverableWay}
use Rattle.cn_reasons.specs.declared.recording.Reader.{Reader}
use Rattle.cn_reasons.specs.declared.recording.RecordingWitness.{RecordingWitness}
use Rattle.cn_reasons.specs.declared.recoverable.RecoverableExplanation.{RecoverableExplanation}
use Rattle.cn_reasons.specs.declared.refutation.Refutation.{Refutation}

-- ---- why it is so much

-- the reader is alone in its team, and orders of the other team leave the start state
pub record IsReaderFor (t : TypeTable) (c : RawChoice) (r : Reader) : Type 0 where
  pub apart : r.team ≢ r.other
  pub alone : (p : ℕ) → (slice_get c.marks p ≡ Some r.team) ↔ (p ≡ r.process)
  pub way_back : LeavesIn t c r.other c.state

-- there is a reader exactly if some order leaves the start state
abbrev pub IsReaderOf : TypeTable → RawChoice → Option Reader → Type 0
IsReaderOf t c reader =
    MatchOption reader ((team : Team) → ¬ LeavesIn t c team c.state) (IsReaderFor t c)

-- the witness of a choice, with the states that its orders leave
pub record IsRecordingOf (t : TypeTable) (c : Choice) (w : RecordingWitness) : Type 0 where
  pub processes : w.processes ≡ length c.a + length c.b
  pub choice : w.choice ≡ choice_groups c
  pub a_states : AreStates (LeavesIn t (raw_choice_of c) A) w.a_states.items
  pub b_states : AreStates (LeavesIn t (raw_choice_of c) B) w.b_states.items
  pub reader : IsReaderOf t (raw_choice_of c) w.reader

-- the first recording witness among the live choices for n processes, with its states
pub record IsFirstRecording (t : TypeTable) (n : ℕ) (w : RecordingWitness) : Type 0 where
  pub choice : Choice
  pub first : IsFirst (IsRecordingWitness t) (live_choices t n) choice
  pub witness : IsRecordingOf t choice w

-- the evidence that the type is n-recording: the first recording witness, and none for one process
abbrev pub IsEvidence : TypeTable → ℕ → Option RecordingWitness → Type 0
IsEvidence t n witness = MatchOption witness (n ≡ 1) (IsFirstRecording t n)

-- for how many processes the witness is: as many as the number, but no more than the limit
abbrev pub witness_size : ℕ → ConsensusNumber → ℕ
witness_size limit (Finite n) = min n limit
witness_size limit Infinite = limit

-- ---- why it is no more

-- the way of a choice: its first reason, and the runs of this
pub record IsRecoverableWayOf (t : TypeTable) (c : Choice) (w : RecoverableWay) : Type 0 where
  pub choice : w.choice ≡ choice_groups c
  pub reason : Reason
  pub is_reason : IsReason t (raw_choice_of c) reason
  pub state : w.state ≡ reason.state
  pub runs : w.runs ≡ runs_of t (raw_choice_of c) reason.alpha.items reason.beta.items

-- the ways for one process more, unless these are above the limit
abbrev pub IsNoMore : TypeTable → ℕ → Bool → ConsensusNumber → Option (Refutation RecoverableWay)
    → Type 0
IsNoMore t limit all (Finite n) refutation =
    MatchOption refutation (limit ≤ n) (λ r. (n < limit)
    × IsRefutationOf (IsRecoverableWayOf t) (n + 1) all (live_choices t (n + 1)) r)
IsNoMore t limit all Infinite refutation = refutation ≡ None

-- ---- all of it

-- each part is of the table
pub record IsRecoverableExplanation (e : RecoverableExplanation) : Type 0 where
  pub witness : IfSome e.witness (IsKnownRecording e.table)
  pub refutation : IfSome e.refutation (IsKnownRefutation (IsKnownRecoverableWay e.table))

-- the explanation is of the recoverable number of the table, with the evidence up to the greatest
-- number of processes that is searched
pub record ExplainsRecoverable (t : TypeTable) (all : Bool) (e : RecoverableExplanation)
    : Type 0 where
  pub known : IsRecoverableExplanation e
  pub is_table : e.table ≡ t
  pub is_all : e.all ≡ all
  pub number : HasRecoverableNumber t e.number
  pub limit : ℕ
  pub is_limit : IsGreatestLimit (length t.states) (length t.operations) limit
  pub witness : IsEvidence t (witness_size limit e.number) e.witness
  pub refutation : IsNoMore t limit all e.number e.refutation
