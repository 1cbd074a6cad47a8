-- Protocols: what each process does next, with registers and with objects that can be read.
-- Objects and registers have numbers, as many as one likes; t gives the type of each object.
-- Source: Herlihy, Wait-free synchronization, 1991: deterministic processes over shared objects.
use Rattle.std.specs.Prelude.{ℕ, ◌<◌, length, Bool}
use Rattle.cn_table.specs.TypeTable.{TypeTable}

-- what a process does next, in one atomic step, and its next local state as a function of the
-- answer: it decides a value; it reads a register; it writes a value to a register; it applies an
-- operation to an object and gets the response; or it reads the state of an object, which stays.
-- L are the local states, and V is what registers hold.
pub data Action (L V : Type 0) : Type 0 where
  Decide : Bool → Action L V
  ReadRegister : ℕ → (V → L) → Action L V
  WriteRegister : ℕ → V → L → Action L V
  ApplyOperation : ℕ → ℕ → (ℕ → L) → Action L V
  ReadObject : ℕ → (ℕ → L) → Action L V

-- a deterministic protocol: the first local state of each process with each input; the next action
-- of each process in each local state; what the registers hold first, and the states in which the
-- objects start
pub record Protocol (L V : Type 0) : Type 0 where
  pub start : ℕ → Bool → L
  pub action : ℕ → L → Action L V
  pub registers : ℕ → V
  pub objects : ℕ → ℕ

-- an operation is applied only to an object whose type has it
abbrev pub IsActionOf : {L V : Type 0} → (ℕ → TypeTable) → Action L V → Type 0
IsActionOf t (Decide x) = Unit {0}
IsActionOf t (ReadRegister i k) = Unit {0}
IsActionOf t (WriteRegister i v l) = Unit {0}
IsActionOf t (ApplyOperation i operation k) = operation < length (t i).operations
IsActionOf t (ReadObject i k) = Unit {0}

-- a protocol of n processes whose objects are of these types: each object starts in a state of its
-- type, and gets operations of its type alone
pub record IsProtocolOf {L V : Type 0} (t : ℕ → TypeTable) (n : ℕ) (P : Protocol L V) : Type 0 where
  pub states_known : (i : ℕ) → P.objects i < length (t i).states
  pub operations_known : (p : ℕ) (l : L) → p < n → IsActionOf t (P.action p l)
