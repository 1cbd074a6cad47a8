-- Sets of pairs of a response and a state.
use Rattle.std.specs.Prelude.{ℕ, List, [], slice_index, slice_index_or, IsBitSet}
use Rattle.cn_stocks.specs.declared.pair_sets.PairSet.{PairSet}

-- the set has the pair
abbrev pub Has : PairSet → ℕ → ℕ → Type 0
Has set response state = IsBitSet (slice_index set.states response) state

-- the set at the place, the empty one where there is none
abbrev pub set_at : List PairSet → ℕ → PairSet
set_at sets place = slice_index_or sets place (record { states = [] })
