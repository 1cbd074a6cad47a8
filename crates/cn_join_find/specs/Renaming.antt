-- Joins of some of a type's operations, under the numbers that these have in the type.
use Rattle.std.specs.Prelude.{ℕ, List, map, slice_index}
use Rattle.cn_joins.specs.Joins.{Join, PlacedWord}
use Rattle.cn_stocks.specs.Words.{IsKnown}

-- each operation of the word is a place in the list of numbers, and gets the number there
abbrev pub renamed_placed : List ℕ → PlacedWord → PlacedWord
renamed_placed numbers w =
    record { word = map (slice_index numbers) w.word; place = w.place }

abbrev pub renamed : List ℕ → Join → Join
renamed numbers join =
    record {
      start = join.start;
      first = renamed_placed numbers join.first;
      second = renamed_placed numbers join.second;
    }

-- the words of the join are of so many operations
pub record IsOfFirst (operations : ℕ) (join : Join) : Type 0 where
  pub first : IsKnown operations join.first.word
  pub second : IsKnown operations join.second.word
