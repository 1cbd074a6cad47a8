-- Joins: two words that show one operation the same pair.
use Rattle.std.specs.Prelude.{◌≡◌, ℕ, ◌<◌, ◌≤◌, List, length, slice_index, Bool, Contains}
use Rattle.cn_table.specs.TypeTable.{TypeTable}
use Rattle.cn_table.specs.Run.{run}
use Rattle.cn_stocks.specs.Words.{IsKnown, IsWithin, times}

-- a word, and a place in it
pub record PlacedWord : Type 0 where
  pub word : List ℕ
  pub place : ℕ

-- two words from a start state
pub record Join : Type 0 where
  pub start : ℕ
  pub first : PlacedWord
  pub second : PlacedWord

-- the operation with which the word begins, and the one at its place
abbrev pub beginning : PlacedWord → ℕ
beginning w = slice_index w.word 0

abbrev pub asked : PlacedWord → ℕ
asked w = slice_index w.word w.place

-- what the word shows the operation at its place: the response there, and the last state
abbrev pub pair_of_word : TypeTable → ℕ → PlacedWord → ℕ × ℕ
pair_of_word t start w =
    let ran = run t start w.word in (slice_index ran.0 w.place, ran.1)

-- the word is one of operations of the type, and it has the place
pub record IsPlacedWord (t : TypeTable) (w : PlacedWord) : Type 0 where
  pub known : IsKnown (length t.operations) w.word
  pub has_place : w.place < length w.word

-- from a state of the type, the two words show the same operation the same pair
pub record IsJoin (t : TypeTable) (join : Join) : Type 0 where
  pub start_known : join.start < length t.states
  pub first : IsPlacedWord t join.first
  pub second : IsPlacedWord t join.second
  pub same_operation : asked join.first ≡ asked join.second
  pub same_pair : pair_of_word t join.start join.first ≡ pair_of_word t join.start join.second

-- the join is from the state, and both of its words are within the stock
pub record IsJoinWithin (start : ℕ) (stock : List ℕ) (join : Join) : Type 0 where
  pub same_start : join.start ≡ start
  pub first : IsWithin stock join.first.word
  pub second : IsWithin stock join.second.word

-- no join of the list, within the stock, has one word that begins with a chosen operation and one
-- that does not
abbrev pub KeepsApart : (ℕ → Bool) → List Join → ℕ → List ℕ → Type 0
KeepsApart chosen joins start stock =
    (join : Join) → Contains joins join → IsJoinWithin start stock join
    → chosen (beginning join.first) ≡ chosen (beginning join.second)

-- the joins connect the operations of the stock: wherever they keep the chosen ones and the others
-- apart, all operations of the stock are chosen, or none is
abbrev pub Connect : List Join → ℕ → List ℕ → Type 0
Connect joins start stock =
    (chosen : ℕ → Bool) → KeepsApart chosen joins start stock
    → (f g : ℕ) → 1 ≤ times f stock → 1 ≤ times g stock → chosen f ≡ chosen g
