-- Types whose operations answer nothing.
use Rattle.std.specs.Prelude.{◌≡◌, ℕ, ◌<◌, length}
use Rattle.cn_table.specs.TypeTable.{TypeTable, transition}

-- a type whose operations answer nothing: each gives one response in all states
abbrev pub AnswersNothing : TypeTable → Type 0
AnswersNothing t = (o p q : ℕ) → o < length t.operations → p < length t.states
    → q < length t.states → (transition t o p).0 ≡ (transition t o q).0
