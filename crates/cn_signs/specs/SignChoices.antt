-- Choices of operations with which processes look for signs.
use Rattle.std.specs.Prelude.{ℕ, ◌<◌, length, All, Bool}
use Rattle.cn_table.specs.TypeTable.{TypeTable}
use Rattle.cn_unread.specs.Signs.{AreSigns, Signs}
use Rattle.cn_signs.specs.declared.sign_choice.SignChoice.{SignChoice}

-- the state and the operations are the type's
abbrev pub IsKnownChoice : TypeTable → SignChoice → Type 0
IsKnownChoice t c = (c.state.0 < length t.states) × (c.single.0 < length t.operations)
    × (c.many.0 < length t.operations) × All (λ o. o < length t.operations) c.further.items

-- the choice with these responses as signs, and with a number for each state
abbrev pub signs_with : SignChoice → (ℕ → ℕ → Bool) → (ℕ → ℕ) → ℕ → Signs
signs_with c sign rank height = record {
  state = c.state.0;
  single = c.single.0;
  many = c.many.0;
  further = c.further.items;
  side = c.side;
  sign = sign;
  rank = rank;
  height = height;
}

-- the choice has signs: with some responses and numbers it is signs of the type
abbrev pub HasSigns : TypeTable → SignChoice → Type 0
HasSigns t c = (sign : ℕ → ℕ → Bool) × (rank : ℕ → ℕ) × (height : ℕ)
    × AreSigns t (signs_with c sign rank height)
