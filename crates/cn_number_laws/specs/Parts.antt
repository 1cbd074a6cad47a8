-- Parts of types: some of their states, out of which no operation leads.
use Rattle.std.specs.Prelude.{◌≡◌, ℕ, ◌<◌, length}
use Rattle.cn_table.specs.TypeTable.{IsClosed, TypeTable, transition}
use Rattle.cn_choice.specs.RawChoices.{RawChoice}

-- the states of the part are some of the type's, under the numbers that f gives; in these the
-- operations do what they do in the type, and lead to no others
pub record IsPart (f : ℕ → ℕ) (part t : TypeTable) : Type 0 where
  pub operations : length part.operations ≡ length t.operations
  pub closed : IsClosed part
  pub known : (q : ℕ) → q < length part.states → f q < length t.states
  pub apart : (p q : ℕ) → p < length part.states → q < length part.states → f p ≡ f q → p ≡ q
  pub response : (o q : ℕ) → o < length part.operations → q < length part.states
      → (transition part o q).0 ≡ (transition t o (f q)).0
  pub next : (o q : ℕ) → o < length part.operations → q < length part.states
      → f (transition part o q).1 ≡ (transition t o (f q)).1

-- the choice with its start state under the number that f gives
abbrev pub with_start : (ℕ → ℕ) → RawChoice → RawChoice
with_start f c = record c { state = f c.state }
