-- Joins that cross from a set of operations to the others of a stock.
use Rattle.std.specs.Prelude.{ℕ, ◌-◌, ◌<◌, ◌≤◌, List, length, IsBitSet}
use Rattle.cn_table.specs.TypeTable.{TypeTable}
use Rattle.cn_joins.specs.Joins.{IsJoin, IsJoinWithin, Join, beginning}
use Rattle.cn_stocks.specs.declared.pair_sets.PairSet.{PairSet}
use Rattle.cn_stocks.specs.Pairs.{Has, set_at}
use Rattle.cn_stocks.specs.Splits.{AreJoined}
use Rattle.cn_stocks.specs.Words.{Shows, times}
use Rattle.cn_join_find.specs.declared.meeting.Meeting.{Meeting}
use Rattle.cn_join_find.specs.declared.steps.Cells.{Cells}
use Rattle.cn_join_find.specs.declared.steps.Views.{Views}
use Rattle.cn_join_find.specs.Steps.{StandsAt}

-- the stock has an operation of the set, and one that is not in it
abbrev pub HasInside : ℕ → List ℕ → Type 0
HasInside set stock = (o : ℕ) × (1 ≤ times o stock) × IsBitSet set o

abbrev pub HasOutside : ℕ → List ℕ → Type 0
HasOutside set stock = (o : ℕ) × (1 ≤ times o stock) × ¬ IsBitSet set o

-- a join of the type, within the stock, from an operation of the set to one that is not in it
pub record IsCrossing (t : TypeTable) (start : ℕ) (stock : List ℕ) (set : ℕ)
    (join : Join) : Type 0 where
  pub is_join : IsJoin t join
  pub within : IsJoinWithin start stock join
  pub inside : IsBitSet set (beginning join.first)
  pub outside : ¬ IsBitSet set (beginning join.second)

-- words within the stock show the operation no pair both behind one of the set and behind another
abbrev pub NoneShown : TypeTable → ℕ → List ℕ → ℕ → ℕ → Type 0
NoneShown t start stock set o = (f g response state : ℕ) → IsBitSet set f → ¬ IsBitSet set g
    → Shows t start stock f o response state → ¬ Shows t start stock g o response state

-- no operation of the set is joined with another one
abbrev pub NoneCrosses : TypeTable → ℕ → List ℕ → ℕ → Type 0
NoneCrosses t start stock set =
    (f g : ℕ) → IsBitSet set f → ¬ IsBitSet set g → ¬ AreJoined t start stock f g

-- the set and the others divide the stock into two parts that no words join
pub record IsPart (t : TypeTable) (start : ℕ) (stock : List ℕ) (set : ℕ) : Type 0 where
  pub inside : HasInside set stock
  pub outside : HasOutside set stock
  pub apart : NoneCrosses t start stock set

-- an operation of the set, another one, and a pair in the sets of both
pub record IsMeeting (t : TypeTable) (pairs : List PairSet) (set : ℕ) (m : Meeting) : Type 0 where
  pub first_known : m.first < length t.operations
  pub second_known : m.second < length t.operations
  pub response_known : m.pair.response < length t.responses
  pub state_known : m.pair.state < length t.states
  pub inside : IsBitSet set m.first
  pub outside : ¬ IsBitSet set m.second
  pub first_has : Has (set_at pairs m.first) m.pair.response m.pair.state
  pub second_has : Has (set_at pairs m.second) m.pair.response m.pair.state

-- the meeting is of an operation of the set and another one, and words within the stock that begin
-- with them show the asked one its pair
pub record MeetsWithin (v : Views) (start : ℕ) (stock : List ℕ) (set : ℕ)
    (m : Meeting) : Type 0 where
  pub first_known : m.first < length v.cells.table.now.operations
  pub second_known : m.second < length v.cells.table.now.operations
  pub response_known : m.pair.response < length v.cells.table.now.responses
  pub state_known : m.pair.state < length v.cells.table.now.states
  pub inside : IsBitSet set m.first
  pub outside : ¬ IsBitSet set m.second
  pub first_shows : Shows v.cells.table.now start stock m.first v.asked m.pair.response
      m.pair.state
  pub second_shows : Shows v.cells.table.now start stock m.second v.asked m.pair.response
      m.pair.state

-- no pair of a response and a state of the type is in both sets
abbrev pub NoCommonPair : TypeTable → PairSet → PairSet → Type 0
NoCommonPair t a b = (response state : ℕ) → response < length t.responses
    → state < length t.states → Has a response state → ¬ Has b response state

-- this is the last of the stocks
abbrev pub IsWhole : Cells → List ℕ → Type 0
IsWhole c whole = StandsAt c (length c.stocks.now - 1) whole
