-- Registers alone do not solve consensus: a type that never changes is not discerning.
use Rattle.std.proofs.Common.{ℕ, ◌<◌, ◌≤◌, length, get_or, arith}
use Rattle.cn_table.specs.TypeTable.{IsClosed, TypeTable}
use Rattle.cn_choice.specs.Discerning.{IsDiscerning, IsWitness}
use Rattle.cn_choice.specs.Live.{IsLive}
use Rattle.cn_choice.specs.RawChoices.{IsRawChoice, RawChoice}
use Rattle.cn_consensus.specs.Consensus.{IsConsensusProtocol}
use Rattle.cn_consensus.specs.Protocol.{IsProtocolOf, Protocol}
use Rattle.cn_consensus.specs.Types.{NeverChanges, all_of}
use Rattle.cn_consensus.proofs.Theorem.{consensus_discerns}

-- what a law of `cn_choice` says
abbrev pub WitnessesAreLive : Type 0
WitnessesAreLive = (t : TypeTable) (n : ℕ) (c : RawChoice) → IsRawChoice t n c → ¬ IsLive t c
    → ¬ IsWitness t c

not_discerning : WitnessesAreLive → (t : TypeTable) (n : ℕ) → NeverChanges t → 2 ≤ n
    → IsDiscerning t n → ⊥
not_discerning live t n same two w =
    let some : 0 < length w.0.operations = omega (arith, w.1.one_operation_each) in
    live t n w.0 w.1 (λ moves. moves 0 0 some (same (get_or w.0.operations 0 0) w.0.state
    (w.1.operations_known 0 0 some) w.1.state_known)) w.2

pub no_protocol : WitnessesAreLive → {L V : Type 0} (t : TypeTable) (n : ℕ) (P : Protocol L V)
    → IsClosed t → NeverChanges t → 2 ≤ n → IsProtocolOf (all_of t) n P
    → IsConsensusProtocol (all_of t) n P → ⊥
no_protocol live t n P closed same two known con =
    not_discerning live t n same two (consensus_discerns t n P closed two known con)
