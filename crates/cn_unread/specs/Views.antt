-- What a process sees of an object by an operation that does not change it.
-- Source: Ruppert, Determining consensus numbers, 2000: processes that tell the teams apart by the
-- response and the state. Views in place of states are new here.
use Rattle.std.specs.Prelude.{◌≡◌, ◌≢◌, ℕ, ◌<◌, length, Option, None, Some}
use Rattle.std.specs.Prelude.{slice_index}
use Rattle.cn_table.specs.TypeTable.{TypeTable, transition}
use Rattle.cn_choice.specs.declared.team.Team.TheVariants.{A, B}
use Rattle.cn_choice.specs.OutcomeSets.{InOutcomeSet}
use Rattle.cn_choice.specs.RawChoices.{IsRawChoice, RawChoice}

-- a silent operation: it leaves each state as it is
pub record IsSilent (t : TypeTable) (v : ℕ) : Type 0 where
  pub known : v < length t.operations
  pub same_state : (q : ℕ) → q < length t.states → (transition t v q).1 ≡ q

-- the response to an operation in a state, and 0 with no operation
abbrev pub view : TypeTable → Option ℕ → ℕ → ℕ
view t None q = 0
view t (Some v) q = (transition t v q).0

-- for each operation and response, a silent operation that a process applies next, or none
abbrev pub IsLook : TypeTable → (ℕ → ℕ → Option ℕ) → Type 0
IsLook t look = (o r v : ℕ) → look o r ≡ Some v → IsSilent t v

-- no process has the same response and the same view of the last state in orders that begin in
-- different teams
abbrev pub IsViewWitness : TypeTable → (ℕ → ℕ → Option ℕ) → RawChoice → Type 0
IsViewWitness t look c = (j r p q : ℕ) → InOutcomeSet t c A j (r, p) → InOutcomeSet t c B j (r, q)
    → view t (look (slice_index c.operations j) r) p ≢ view t (look (slice_index c.operations j) r) q

-- some raw choice for n processes is such a witness
abbrev pub IsViewDiscerning : TypeTable → ℕ → Type 0
IsViewDiscerning t n = (look : ℕ → ℕ → Option ℕ) × IsLook t look × (c : RawChoice) × IsRawChoice t n c
    × IsViewWitness t look c
