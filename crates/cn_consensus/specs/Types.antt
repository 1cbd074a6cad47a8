-- Types: what the laws ask of a table, and objects of several types.
-- Source: Ruppert, Determining consensus numbers, 2000: deterministic types whose operations any
-- process may apply. Loui and Abu-Amara, Memory requirements for agreement among unreliable
-- asynchronous processes, 1987: registers alone.
use Rattle.std.specs.Prelude.{◌≡◌, ℕ, ◌<◌, length}
use Rattle.cn_table.specs.TypeTable.{TypeTable, transition}

-- a type whose operations never change the state: its objects are of no use beside registers
abbrev pub NeverChanges : TypeTable → Type 0
NeverChanges t = (operation state : ℕ) → operation < length t.operations → state < length t.states
    → (transition t operation state).1 ≡ state

-- each object is of this one type
abbrev pub all_of : TypeTable → ℕ → TypeTable
all_of t i = t
