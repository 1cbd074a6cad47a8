-- Operations whose responses tell the states to which they lead, and states that are seen.
use Rattle.std.specs.Prelude.{◌≡◌, ℕ, ◌<◌, List, length}
use Rattle.cn_table.specs.TypeTable.{TypeTable, transition}
use Rattle.cn_unread.specs.Collects.{LookAlike}

-- where the operation answers the same in both states, it leads to one
abbrev pub Agree : TypeTable → ℕ → ℕ → ℕ → Type 0
Agree t o p q =
    (transition t o p).0 ≡ (transition t o q).0 → (transition t o p).1 ≡ (transition t o q).1

abbrev pub AgreesWithAll : TypeTable → ℕ → ℕ → Type 0
AgreesWithAll t o p = (q : ℕ) → q < length t.states → Agree t o p q

abbrev pub TellsStates : TypeTable → ℕ → Type 0
TellsStates t o = (p : ℕ) → p < length t.states → AgreesWithAll t o p

-- no other state looks like p
abbrev pub IsSeen : TypeTable → List ℕ → ℕ → Type 0
IsSeen t looks p = (q : ℕ) → q < length t.states → LookAlike t looks p q → p ≡ q
