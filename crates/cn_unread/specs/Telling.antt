-- Types of which a process gets to know all without reads.
-- Source: Ruppert, Determining consensus numbers, 2000: read-modify-write types, whose operations
-- answer the state. Responses that tell the next state, and several operations that tell the state
-- together, are new here.
use Rattle.std.specs.Prelude.{◌≡◌, ℕ, ◌<◌, List, length}
use Rattle.cn_table.specs.TypeTable.{TypeTable, transition}
use Rattle.cn_unread.specs.Collects.{LookAlike}

-- where an operation gets one response in two states, it leads to one state
abbrev pub ResponsesTellStates : TypeTable → Type 0
ResponsesTellStates t = (o p q : ℕ) → o < length t.operations → p < length t.states
    → q < length t.states → (transition t o p).0 ≡ (transition t o q).0
    → (transition t o p).1 ≡ (transition t o q).1

-- two states that look alike are one
abbrev pub LooksTellStates : TypeTable → List ℕ → Type 0
LooksTellStates t looks = (p q : ℕ) → p < length t.states → q < length t.states
    → LookAlike t looks p q → p ≡ q
