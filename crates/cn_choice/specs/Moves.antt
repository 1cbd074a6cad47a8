-- The response and the next state of a move of a process.
use Rattle.std.specs.Prelude.{ℕ, slice_index}
use Rattle.cn_table.specs.TypeTable.{TypeTable, transition}
use Rattle.cn_choice.specs.RawChoices.{RawChoice}

-- the response to process p and the next state, if p moves in this state
abbrev pub move_of : TypeTable → RawChoice → ℕ → ℕ → ℕ × ℕ
move_of t c p state = transition t (slice_index c.operations p) state

abbrev pub answer_of : TypeTable → RawChoice → ℕ → ℕ → ℕ
answer_of t c p state = (move_of t c p state).0

abbrev pub next_of : TypeTable → RawChoice → ℕ → ℕ → ℕ
next_of t c p state = (move_of t c p state).1
