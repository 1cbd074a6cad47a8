-- The protocol of a witness for any number of processes, with any judgement.
-- Source: Ruppert, Determining consensus numbers, 2000.
use Rattle.std.specs.Prelude.{◌≡◌, ℕ, length}
use Rattle.cn_table.specs.TypeTable.{TypeTable}
use Rattle.cn_choice.specs.Canonical.{Choice, raw_choice_of}
use Rattle.cn_choice.specs.Moves.{move_of}
use Rattle.cn_choice.specs.OutcomeSets.{InOutcomeSet}
use Rattle.cn_choice.specs.RawChoices.{RawChoice}
use Rattle.cn_choice.specs.declared.team.Team.{Team}
use Rattle.cn_proto.specs.Protocol.{ProtocolOfRounds}
use Rattle.cn_proto.specs.Tournament.{tournament}

-- the judgement of a role, for its response and the last state, is the team in whose outcome set
-- the pair is
abbrev pub JudgesOutcomes : TypeTable → RawChoice → (ℕ → ℕ → ℕ → Team) → Type 0
JudgesOutcomes t c judge = (team : Team) (role response state : ℕ)
    → InOutcomeSet t c team role (response, state) → judge role response state ≡ team

-- the protocol over the tournament of a choice: the roles are the processes of the choice
abbrev pub tournament_protocol : TypeTable → Choice → (ℕ → ℕ → ℕ → Team) → ProtocolOfRounds
tournament_protocol t c judge = record {
  act = move_of t (raw_choice_of c);
  start = c.state;
  judge = judge;
  path = tournament (length c.a) (length c.b);
}
