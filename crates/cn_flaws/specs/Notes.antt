-- What a table has that its reader may not expect.
use Rattle.std.specs.Prelude.{◌≡◌, ◌≢◌, ◌↔◌, ℕ, ◌<◌, List, length, map, All, AllPairs, Contains, IsTrue}
use Rattle.cn_table.specs.Reach.{Leads}
use Rattle.cn_table.specs.TypeTable.{TypeTable, transition}
use Rattle.cn_table.specs.declared.elements.State.{State}
use Rattle.cn_flaws.specs.declared.notes.IdleOperation.{IdleOperation}
use Rattle.cn_flaws.specs.declared.notes.TableNotes.{TableNotes}

-- these are the numbers that have the property, in ascending order
pub record AreThose (Has : ℕ → Type 0) (numbers : List ℕ) : Type 0 where
  pub each : (n : ℕ) → Contains numbers n ↔ Has n
  pub ascending : AllPairs (λ x y. x < y) numbers

-- the operation leads from each state to that state
abbrev pub IsIdle : TypeTable → ℕ → Type 0
IsIdle t o = (q : ℕ) → q < length t.states → (transition t o q).1 ≡ q

-- the operation has different responses in some two states
abbrev pub AnswersDiffer : TypeTable → ℕ → Type 0
AnswersDiffer t o = (p : ℕ) × (q : ℕ) × (p < length t.states) × (q < length t.states)
    × ((transition t o p).0 ≢ (transition t o q).0)

-- all operations that change nothing, in their order, and of each whether its responses differ
pub record AreIdle (t : TypeTable) (list : List IdleOperation) : Type 0 where
  pub operations : AreThose (λ o. (o < length t.operations) × IsIdle t o)
      (map (λ i. i.operation.0) list)
  pub answers : All (λ i. IsTrue i.answers ↔ AnswersDiffer t i.operation.0) list

-- all states to which no operations lead from the first one, in their order
abbrev pub AreUnreached : TypeTable → List State → Type 0
AreUnreached t list =
    AreThose (λ q. (q < length t.states) × ¬ Leads t 0 q) (map (λ q. q.0) list)

pub record Notes : Type 0 where
  pub idle : List IdleOperation
  pub unreached : List State

-- notes in memory
abbrev pub notes_view : TableNotes → Notes
notes_view notes = record { idle = notes.idle.items; unreached = notes.unreached.items }

-- the notes are those of the table
pub record AreNotes (t : TypeTable) (notes : Notes) : Type 0 where
  pub idle : AreIdle t notes.idle
  pub unreached : AreUnreached t notes.unreached
