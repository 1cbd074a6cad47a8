-- Configurations, and the steps of processes.
-- Source: Fischer, Lynch and Paterson, Impossibility of distributed consensus, 1985.
use Rattle.std.specs.Prelude.{ℕ, List, [], ◌∷◌, Bool, nat_eq, cond, Option, Some, None}
use Rattle.cn_table.specs.TypeTable.{TypeTable, transition}
use Rattle.cn_consensus.specs.Protocol.{Action, Protocol}
use Rattle.cn_consensus.specs.Protocol.Action.{Decide, ReadRegister, WriteRegister}
use Rattle.cn_consensus.specs.Protocol.Action.{ApplyOperation, ReadObject}

-- the local state of each process, what each register holds, and the state of each object
pub record Configuration (L V : Type 0) : Type 0 where
  pub locals : ℕ → L
  pub registers : ℕ → V
  pub objects : ℕ → ℕ

-- the function with another value at i
abbrev pub put : {X : Type 0} → (ℕ → X) → ℕ → X → ℕ → X
put f i x = λ j. cond (nat_eq j i) x (f j)

-- the configuration after this action of process p. A decision changes nothing.
abbrev pub perform : {L V : Type 0} → (ℕ → TypeTable)
    → Configuration L V → ℕ → Action L V → Configuration L V
perform t c p (Decide x) = c
perform t c p (ReadRegister i k) = record {
  locals = put c.locals p (k (c.registers i));
  registers = c.registers;
  objects = c.objects;
}
perform t c p (WriteRegister i v l) = record {
  locals = put c.locals p l;
  registers = put c.registers i v;
  objects = c.objects;
}
perform t c p (ApplyOperation i operation k) = record {
  locals = put c.locals p (k (transition (t i) operation (c.objects i)).0);
  registers = c.registers;
  objects = put c.objects i (transition (t i) operation (c.objects i)).1;
}
perform t c p (ReadObject i k) = record {
  locals = put c.locals p (k (c.objects i));
  registers = c.registers;
  objects = c.objects;
}

-- the configuration after the next step of process p
abbrev pub step : {L V : Type 0} → (ℕ → TypeTable) → Protocol L V
    → Configuration L V → ℕ → Configuration L V
step t P c p = perform t c p (P.action p (c.locals p))

-- the configuration after the steps of a schedule, the list of the processes that take them in turn
abbrev pub after : {L V : Type 0} → (ℕ → TypeTable) → Protocol L V
    → Configuration L V → List ℕ → Configuration L V
after t P c [] = c
after t P c (p ∷ ps) = after t P (step t P c p) ps

-- the configuration in which the processes start with these inputs
abbrev pub initial : {L V : Type 0} → Protocol L V → (ℕ → Bool) → Configuration L V
initial P inputs = record {
  locals = λ p. P.start p (inputs p);
  registers = P.registers;
  objects = P.objects;
}

-- the value that is decided, if the action is to decide
abbrev pub decided_by : {L V : Type 0} → Action L V → Option Bool
decided_by (Decide x) = Some x
decided_by (ReadRegister i k) = None
decided_by (WriteRegister i v l) = None
decided_by (ApplyOperation i operation k) = None
decided_by (ReadObject i k) = None

-- what process p has decided, if it has
abbrev pub decision : {L V : Type 0} → Protocol L V → Configuration L V → ℕ → Option Bool
decision P c p = decided_by (P.action p (c.locals p))
