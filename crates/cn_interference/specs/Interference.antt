-- Operations that interfere: they commute, or one of them wipes out the other.
use Rattle.std.specs.Prelude.{◌≡◌, ◌⊎◌, ℕ, ◌<◌, length}
use Rattle.cn_table.specs.TypeTable.{TypeTable, transition}

-- the response that an operation gives in a state, and the state after it
abbrev pub answer : TypeTable → ℕ → ℕ → ℕ
answer t f q = (transition t f q).0

abbrev pub next : TypeTable → ℕ → ℕ → ℕ
next t f q = (transition t f q).1

-- in this state both orders of the two operations leave the same state
abbrev pub Commute : TypeTable → ℕ → ℕ → ℕ → Type 0
Commute t f g q = next t g (next t f q) ≡ next t f (next t g q)

-- in this state the first operation wipes out the second: it leaves the same state whether or not
-- the second goes before it
abbrev pub WipesOut : TypeTable → ℕ → ℕ → ℕ → Type 0
WipesOut t f g q = next t f (next t g q) ≡ next t f q

-- the two operations interfere in this state: they commute there, or one wipes out the other
abbrev pub Interfere : TypeTable → ℕ → ℕ → ℕ → Type 0
Interfere t f g q = Commute t f g q ⊎ WipesOut t f g q ⊎ WipesOut t g f q

-- any two operations of the type interfere in every state
abbrev pub AllInterfere : TypeTable → Type 0
AllInterfere t =
    (f : ℕ) → f < length t.operations → (g : ℕ) → g < length t.operations
    → (q : ℕ) → q < length t.states → Interfere t f g q

-- the operation gives the same response in all states
abbrev pub AnswersNothing : TypeTable → ℕ → Type 0
AnswersNothing t f =
    (q : ℕ) → q < length t.states → (p : ℕ) → p < length t.states → answer t f q ≡ answer t f p

-- no operation of the type answers anything: each gives the same response in all states
abbrev pub NoneAnswers : TypeTable → Type 0
NoneAnswers t = (f : ℕ) → f < length t.operations → AnswersNothing t f

-- in this state the first operation tells nothing of the second: it gives the same response whether
-- or not the second goes before it, and they commute or the first wipes out the second
abbrev pub TellsNothing : TypeTable → ℕ → ℕ → ℕ → Type 0
TellsNothing t f g q =
    (answer t f (next t g q) ≡ answer t f q) × (Commute t f g q ⊎ WipesOut t f g q)

-- of any two operations of the type, in every state one tells nothing of the other
abbrev pub AllHide : TypeTable → Type 0
AllHide t =
    (f : ℕ) → f < length t.operations → (g : ℕ) → g < length t.operations
    → (q : ℕ) → q < length t.states → TellsNothing t f g q ⊎ TellsNothing t g f q
