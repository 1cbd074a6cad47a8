-- What lemmas take from the laws of other crates.
use Rattle.std.proofs.Common.{ℕ, ◌+◌, ◌-◌, ◌<◌, ◌≤◌, List, length}
use Rattle.cn_table.specs.TypeTable.{TypeTable}
use Rattle.cn_choice.specs.Canonical.{Choice, IsCanonicalForm, raw_choice_of}
use Rattle.cn_choice.specs.Moves.{move_of}
use Rattle.cn_choice.specs.OutcomeSets.{InOutcomeSet}
use Rattle.cn_choice.specs.RawChoices.{IsRawChoice, RawChoice}
use Rattle.cn_choice.specs.Renumbering.{Embeds, with_other_teams}
use Rattle.cn_choice.specs.declared.team.Team.{Team}
use Rattle.cn_proto.specs.Order.{after, IsAnswered, IsRun}
use Rattle.cn_proto.specs.Sound.{IsSound}
use Rattle.cn_proto.specs.Tournament.{team_of, tournament}
use Rattle.cn_proto.specs.Witnesses.{JudgesOutcomes, tournament_protocol}
use Rattle.cn_recover.specs.Recording.{IsRecording, IsRecordingWitness}
use Rattle.cn_crashes.specs.RecoverableConsensusNumber.{SolvesRecoverableConsensus}

-- each raw choice has a canonical form
abbrev pub Coverage : Type 0
Coverage = (t : TypeTable) (n : ℕ) (c : RawChoice) → IsRawChoice t n c
    → (d : Choice) × IsCanonicalForm t n d c

-- the tournament of a choice, for any number of processes
pub record Tournaments : Type 0 where
  pub outcomes : (t : TypeTable) (c : Choice) (side : Team) (order : List ℕ) (role response : ℕ)
      → IsRun (length c.a + length c.b) (team_of (length c.a)) side order
      → IsAnswered (move_of t (raw_choice_of c)) c.state order role response
      → InOutcomeSet t (raw_choice_of c) side role
      (response, after (move_of t (raw_choice_of c)) c.state order)
  pub sound : (t : TypeTable) (c : Choice) (n : ℕ) (judge : ℕ → ℕ → ℕ → Team)
      → IsRawChoice t n (raw_choice_of c) → JudgesOutcomes t (raw_choice_of c) judge
      → IsSound (tournament_protocol t c judge) n (n - 1) (team_of (length c.a))
  pub short : (t : TypeTable) (c : Choice) (n : ℕ) → IsRawChoice t n (raw_choice_of c)
      → (p : ℕ) → p < n → length (tournament (length c.a) (length c.b) p) ≤ n - 1

-- recording witnesses with other numbers or exchanged teams
pub record Renumberings : Type 0 where
  pub some : (t : TypeTable) (f : ℕ → ℕ) (d c : RawChoice) → Embeds f d c
      → IsRecordingWitness t c → IsRecordingWitness t d
  pub exchanged : (t : TypeTable) (c : RawChoice) → IsRecordingWitness t c
      → IsRecordingWitness t (with_other_teams c)

-- a recording type solves recoverable consensus
abbrev pub RecordingIsEnough : Type 0
RecordingIsEnough = (t : TypeTable) (n : ℕ) → 2 ≤ n → IsRecording t n
    → SolvesRecoverableConsensus t n
