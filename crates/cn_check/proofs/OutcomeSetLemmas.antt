-- Outcome sets, and whether those of both teams meet.
use Rattle.std.proofs.Common.{ℕ, ◌<◌, List, length, ◌↔◌}
use Rattle.cn_table.specs.TypeTable.{TypeTable}
use Rattle.cn_choice.specs.declared.team.Team.{Team}
use Rattle.cn_choice.specs.RawChoices.{RawChoice}
use Rattle.cn_choice.specs.declared.team.Team.TheVariants.{A, B}
use Rattle.cn_choice.specs.Discerning.{IsWitness, OutcomeSetsMeet}
use Rattle.cn_choice.specs.OutcomeSets.{InOutcomeSet}
use Rattle.cn_check.specs.WalkedRuns.{HasPair, HasPairInBoth}

-- what the law of outcome sets says
abbrev pub AreOfProcesses : Type 0
AreOfProcesses = (t : TypeTable) (c : RawChoice) (team : Team) (j : ℕ) (pair : ℕ × ℕ) → InOutcomeSet t c team j pair → j < length c.operations

pub sets_meet : (t : TypeTable) (c : RawChoice) (j : ℕ) (after_a after_b : List ℕ)
    → ((j r q : ℕ) → HasPair after_a j r q ↔ InOutcomeSet t c A j (r, q))
    → ((j r q : ℕ) → HasPair after_b j r q ↔ InOutcomeSet t c B j (r, q))
    → HasPairInBoth after_a after_b j ↔ OutcomeSetsMeet t c j
sets_meet t c j after_a after_b a b = (
  λ h. ((h.0, h.1), (a j h.0 h.1).0 h.2, (b j h.0 h.1).0 h.3),
  λ h. (h.0.0, h.0.1, (a j h.0.0 h.0.1).1 h.1, (b j h.0.0 h.0.1).1 h.2),
)

pub witness_from : AreOfProcesses → (t : TypeTable) (c : RawChoice) → ((j : ℕ) → j < length c.operations → ¬ OutcomeSetsMeet t c j) → IsWitness t c
witness_from of_processes t c none j pair a b = none j (of_processes t c A j pair a) (pair, a, b)
