-- Executions: steps of processes, and crashes of one process at a time.
-- Source: individual crashes with shared objects that keep their contents, as in Golab, The
-- recoverable consensus hierarchy, 2020, and Delporte-Gallet, Fatourou, Fauconnier and Ruppert,
-- When is recoverable consensus harder than consensus?, 2022.
use Rattle.std.specs.Prelude.{◌≡◌, ◌≢◌, ℕ, ◌+◌, ◌<◌, List, [], ◌∷◌, Bool, nat_eq, cond, Some}
use Rattle.std.specs.List.{AllByRecursion}
use Rattle.cn_table.specs.TypeTable.{TypeTable}
use Rattle.cn_consensus.specs.Protocol.{Protocol}
use Rattle.cn_consensus.specs.Configuration.{Configuration, decision, initial, put, step}

-- a process takes its next step, or crashes
pub data Event : Type 0 where
  Step : ℕ → Event
  Crash : ℕ → Event

-- the process of the event
abbrev pub process_of : Event → ℕ
process_of (Step p) = p
process_of (Crash p) = p

-- the configuration after a crash of process p: it is in its first local state with its input
-- again, and the registers and the objects stay as they are
abbrev pub after_crash : {L V : Type 0} → Protocol L V → (ℕ → Bool)
    → Configuration L V → ℕ → Configuration L V
after_crash P inputs c p = record {
  locals = put c.locals p (P.start p (inputs p));
  registers = c.registers;
  objects = c.objects;
}

-- the configuration after the event
abbrev pub after_event : {L V : Type 0} → (ℕ → TypeTable) → Protocol L V → (ℕ → Bool)
    → Configuration L V → Event → Configuration L V
after_event t P inputs c (Step p) = step t P c p
after_event t P inputs c (Crash p) = after_crash P inputs c p

-- the configuration after the events of an execution, in this order
abbrev pub after_execution : {L V : Type 0} → (ℕ → TypeTable) → Protocol L V → (ℕ → Bool)
    → Configuration L V → List Event → Configuration L V
after_execution t P inputs c [] = c
after_execution t P inputs c (e ∷ es) = after_execution t P inputs (after_event t P inputs c e) es

-- an execution of n processes: any list of their events. A process may crash at any time, any
-- number of times, and also after it has decided.
abbrev pub IsExecution : ℕ → List Event → Type 0
IsExecution n es = AllByRecursion (λ e. process_of e < n) es

-- how many steps process p takes
abbrev pub steps_of : ℕ → List Event → ℕ
steps_of p [] = 0
steps_of p (Step q ∷ es) = cond (nat_eq q p) 1 0 + steps_of p es
steps_of p (Crash q ∷ es) = steps_of p es

-- process p does not crash
abbrev pub NeverCrashes : ℕ → List Event → Type 0
NeverCrashes p es = AllByRecursion (λ e. e ≢ Crash p) es

-- with these inputs, process p has decided x after the execution
abbrev pub HasDecidedIn : {L V : Type 0} → (ℕ → TypeTable) → Protocol L V
    → (ℕ → Bool) → List Event → ℕ → Bool → Type 0
HasDecidedIn t P inputs es p x =
    decision P (after_execution t P inputs (initial P inputs) es) p ≡ Some x
