-- The operations of a recording witness tell: how great a recoverable number can be that is finite.
use Rattle.std.proofs.Common.{ℕ, ◌<◌, ◌≤◌, ◌+◌, inl, inr, List, length, arith}
use Rattle.std.specs.List.{range_with_len}
use Rattle.std.proofs.lemmas.List.FromFn.{length-range_with_len}
use Rattle.cn_table.specs.TypeTable.{IsClosed, TypeTable}
use Rattle.cn_choice.specs.RawChoices.{IsRawChoice, RawChoice}
use Rattle.cn_search.specs.declared.exact.ConsensusNumber.TheVariants.{Finite}
use Rattle.cn_stocks.specs.Lasting.{IsAlwaysDiscerning, NoneLast}
use Rattle.cn_stocks.proofs.Teams.{operations_known}
use Rattle.cn_telling.specs.Telling.{TellsFrom}
use Rattle.cn_recover.specs.Recording.{HasRecoverableNumber, IsRecording, IsRecordingWitness}
use Rattle.cn_recover.proofs.StockRecords.{recorded_by}
use Rattle.cn_number_laws.specs.LastingStarts.{NoneLastFrom, SomeLast}
use Rattle.cn_number_laws.specs.ReachedStates.{HasReached}
use Rattle.cn_number_laws.proofs.Numbers.{all_states, tells_few}
use Rattle.cn_number_laws.proofs.Orbits.{some_or_none}

recording_tells : (t : TypeTable) (n : ℕ) (c : RawChoice) → IsRawChoice t n c → IsRecordingWitness t c → TellsFrom t n c.state
recording_tells t n c is w =
    let r = recorded_by t n c is w in
    (c.operations, operations_known t n c is, is.one_operation_each, record { chosen = r.chosen; inside = r.inside; outside = r.outside; apart = r.apart })

pub recording_few : (t : TypeTable) (n : ℕ) (c : RawChoice) (states : List ℕ) → IsRawChoice t n c → IsRecordingWitness t c → HasReached t c.state states → NoneLastFrom t c.state → n < length states
recording_few t n c states is w has none = tells_few t c.state n states has none (recording_tells t n c is w)

pub closed_recording_few : (t : TypeTable) (n : ℕ) → IsClosed t → NoneLast t → IsRecording t n → n < length t.states
closed_recording_few t n closed none (c, is, w) =
    omega (
      arith,
      recording_few t n c (range_with_len 0 (length t.states)) is w (all_states t closed c.state is.state_known) (none c.state is.state_known),
      length-range_with_len 0 (length t.states),
    )

-- a number that is the greatest is finite
pub recoverable_number_few : (t : TypeTable) (n : ℕ) → (SomeLast t → IsAlwaysDiscerning t) → (IsAlwaysDiscerning t → (m : ℕ) → 2 ≤ m → IsRecording t m) → IsClosed t → 2 ≤ n
    → HasRecoverableNumber t (Finite n) → n < length t.states
recoverable_number_few t n always together closed two is = elim (some_or_none t) [
  | inl l ↦ absurd (is.3 (n + 1) (omega arith) (together (always l) (n + 1) (omega (arith, two))))
  | inr none ↦ closed_recording_few t n closed none (is.2 two)
]
