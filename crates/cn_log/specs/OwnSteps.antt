-- Wait-freedom: a call ends within a bounded number of steps of its process, and a log has room for
-- all its events.
use Rattle.std.specs.Prelude.{ℕ, suc, ◌⊎◌, ◌+◌, ◌-◌, ◌*◌, ◌≤◌, ◌==◌, Bool, false, List, length}
use Rattle.std.specs.Prelude.{take, drop, count_by}
use Rattle.cn_log.specs.declared.entry.Entry.{Entry}
use Rattle.cn_log.specs.declared.event.Event.{Event}
use Rattle.cn_log.specs.declared.event.Event.TheVariants.{Invoke, Step}
use Rattle.cn_log.specs.Bypass.{fixed_before}
use Rattle.cn_log.specs.Callers.{caller_of}
use Rattle.cn_log.specs.Linearized.{IsCall, IsAnswered, FindsFull}
use Rattle.cn_log.specs.Log.{Setting}

-- the event is a step of process p
abbrev pub is_step_of : ℕ → Event → Bool
is_step_of p (Invoke q operation) = false
is_step_of p (Step q) = q == p

-- the number of steps of process p in these events
abbrev pub steps_of : ℕ → List Event → ℕ
steps_of p events = count_by (is_step_of p) events

-- the number of steps of process p after event i and before event j
abbrev pub steps_between : ℕ → List Event → ℕ → ℕ → ℕ
steps_between p events i j = steps_of p (drop (suc i) (take j events))

-- a slot costs a process n looks, at most 4 (n - 1) steps of the round, and at most one call; each
-- of n processes may have one more event
abbrev pub event_room : ℕ → ℕ → ℕ
event_room n slots = n * (slots * (5 * n - 3) + 1)

module _ {R : Type 0} (L : Setting R) (events : List Event) where
  -- the number of slots that process p had replayed before event i
  abbrev pub replayed_before : ℕ → ℕ → ℕ
  replayed_before i p = length (caller_of L (take i events) p).seen

  -- the number of steps that is enough for a call made by event i: (F - k + 2) (5n - 4), if
  -- its process had replayed k slots and F slots were fixed
  abbrev pub steps_enough : ℕ → Entry → ℕ
  steps_enough i e =
      (fixed_before L events i + 2 - replayed_before i e.process) * (5 * L.processes - 4)

  -- event j ends the call, with its answer or without
  abbrev pub IsOver : ℕ → Entry → Type 0
  IsOver j e =
      ((slot : ℕ) × (response : ℕ) × IsAnswered L events j e slot response) ⊎ FindsFull L events j e

  -- a call whose process has taken enough steps since is over, and ended within them
  pub record IsWaitFree : Type 0 where
    pub over : (i : ℕ) (e : Entry) → IsCall events i e
        → steps_enough i e ≤ steps_between e.process events i (length events)
        → (j : ℕ) × IsOver j e × (steps_between e.process events i (suc j) ≤ steps_enough i e)
