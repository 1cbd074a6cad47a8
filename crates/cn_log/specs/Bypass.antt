-- The bypass bound: a call waits for at most one slot that begins after it.
use Rattle.std.specs.Prelude.{ℕ, ◌+◌, ◌≤◌, List, length, take}
use Rattle.cn_log.specs.declared.entry.Entry.{Entry}
use Rattle.cn_log.specs.declared.event.Event.{Event}
use Rattle.cn_log.specs.Log.{Setting, batches}
use Rattle.cn_log.specs.Linearized.{IsCall, Stands, StandsIn}

-- the number of slots fixed before event i
abbrev pub fixed_before : {R : Type 0} → Setting R → List Event → ℕ → ℕ
fixed_before L events i = length (batches L (take i events))

-- a call made when F slots were fixed stands in slot F or F + 1, if it stands; else at most F + 1
-- slots are fixed
pub record IsBypassBounded {R : Type 0} (L : Setting R) (events : List Event) : Type 0 where
  pub stands : (i place k : ℕ) (e : Entry) → IsCall events i e → StandsIn L events place k e
      → (fixed_before L events i ≤ k) × (k ≤ fixed_before L events i + 1)
  pub waits : (i : ℕ) (e : Entry) → IsCall events i e → ((k : ℕ) → Stands L events k e → ⊥)
      → length (batches L events) ≤ fixed_before L events i + 1
