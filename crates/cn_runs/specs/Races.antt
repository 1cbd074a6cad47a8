-- Protocols written by hand, and the inputs and schedules that show where they fail.
use Rattle.std.specs.Prelude.{ℕ, zero, suc, List, [], ◌∷◌, nat_eq, cond}
use Rattle.std.specs.Prelude.{Bool, true, false, Option, Some, None}
use Rattle.cn_consensus.specs.Protocol.{Action, Protocol}
use Rattle.cn_consensus.specs.Protocol.Action.{Decide, ReadRegister, WriteRegister, ApplyOperation}
use Rattle.cn_crashes.specs.Execution.{Event}
use Rattle.cn_crashes.specs.Execution.Event.{Step, Crash}

-- what a process with this input does next: it writes the input to its register; it applies
-- test-and-set; it looks into the register of another process; or it decides
pub data RaceLocal : Type 0 where
  Writing : Bool → RaceLocal
  Racing : Bool → RaceLocal
  Looking : Bool → RaceLocal
  Finished : Bool → RaceLocal

-- ---- each process decides its own input

abbrev pub own_action : ℕ → RaceLocal → Action RaceLocal (Option Bool)
own_action p (Writing x) = WriteRegister p (Some x) (Finished x)
own_action p (Racing x) = Decide x
own_action p (Looking x) = Decide x
own_action p (Finished x) = Decide x

abbrev pub own_input : Protocol RaceLocal (Option Bool)
own_input = record {
  start = λ p x. Writing x;
  action = λ p l. own_action p l;
  registers = λ i. None;
  objects = λ i. 0;
}

-- ---- each process decides true

abbrev pub always_true : Protocol RaceLocal (Option Bool)
always_true = record {
  start = λ p x. Finished true;
  action = λ p l. own_action p l;
  registers = λ i. None;
  objects = λ i. 0;
}

-- ---- the race for one test-and-set bit: who gets zero decides its own input, and each other one
-- the value in the register of another process. It solves consensus for two processes.

-- the process into whose register process p looks
abbrev pub other : ℕ → ℕ
other zero = 1
other (suc p) = 0

-- the value that a register holds, or this one if it holds none
abbrev pub held_or : Bool → Option Bool → Bool
held_or x None = x
held_or x (Some y) = y

abbrev pub race_action : ℕ → RaceLocal → Action RaceLocal (Option Bool)
race_action p (Writing x) = WriteRegister p (Some x) (Racing x)
race_action p (Racing x) =
    ApplyOperation 0 0 (λ response. cond (nat_eq response 0) (Finished x) (Looking x))
race_action p (Looking x) = ReadRegister (other p) (λ held. Finished (held_or x held))
race_action p (Finished x) = Decide x

abbrev pub race : Protocol RaceLocal (Option Bool)
race = record {
  start = λ p x. Writing x;
  action = λ p l. race_action p l;
  registers = λ i. None;
  objects = λ i. 0;
}

-- ---- process 0 decides what its test-and-set answers, and the others never decide

abbrev pub answer_action : ℕ → RaceLocal → Action RaceLocal (Option Bool)
answer_action zero (Writing x) =
    ApplyOperation 0 0 (λ response. Finished (nat_eq response 1))
answer_action zero (Racing x) = Decide x
answer_action zero (Looking x) = Decide x
answer_action zero (Finished x) = Decide x
answer_action (suc p) l = ReadRegister 0 (λ held. l)

abbrev pub answer : Protocol RaceLocal (Option Bool)
answer = record {
  start = λ p x. Writing x;
  action = λ p l. answer_action p l;
  registers = λ i. None;
  objects = λ i. 0;
}

-- ---- inputs, schedules and executions

-- process 0 has input false, and each other process true
abbrev pub one_false : ℕ → Bool
one_false zero = false
one_false (suc p) = true

abbrev pub all_false : ℕ → Bool
all_false p = false

-- processes 0 and 1 write and decide
abbrev pub both_write : List ℕ
both_write = 0 ∷ 1 ∷ []

-- process 1 gets the bit, and process 2 looks into the register of process 0
abbrev pub wrong_register : List ℕ
wrong_register = 0 ∷ 1 ∷ 1 ∷ 2 ∷ 2 ∷ 2 ∷ []

-- process 0 gets the bit and decides, and process 1 decides the value of process 0
abbrev pub both_decide : List Event
both_decide = Step 0 ∷ Step 0 ∷ Step 1 ∷ Step 1 ∷ Step 1 ∷ []

-- process 0 crashes, and takes three steps
abbrev pub comes_back : List Event
comes_back = Crash 0 ∷ Step 0 ∷ Step 0 ∷ Step 0 ∷ []

-- process 0 takes a step
abbrev pub first_answer : List Event
first_answer = Step 0 ∷ []

-- process 0 crashes, and takes a step
abbrev pub second_answer : List Event
second_answer = Crash 0 ∷ Step 0 ∷ []
