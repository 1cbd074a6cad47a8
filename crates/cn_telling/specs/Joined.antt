-- For each operation of a stock the set of those with which it is joined.
use Rattle.std.specs.Prelude.{◌≡◌, ◌↔◌, ℕ, ◌<◌, ◌-◌, List, length, Some}
use Rattle.cn_table.specs.TypeTable.{TypeTable}
use Rattle.cn_stocks.specs.declared.pair_sets.PairSet.{PairSet}
use Rattle.cn_stocks.specs.declared.stocks.Stock.{Stock}
use Rattle.cn_stocks.specs.Meetings.{HasAt}
use Rattle.cn_stocks.specs.Pairs.{Has, set_at}
use Rattle.cn_stocks.specs.Splits.{AreJoined}
use Rattle.cn_stocks.specs.Stocks.{items_at}
use Rattle.cn_stocks.specs.Words.{Shows}
use Rattle.cn_telling.specs.declared.shown.Asking.{Asking}
use Rattle.cn_telling.specs.Asking.{AreShownTo}

-- these are the operations of the last stock
abbrev pub IsLast : List ℕ → List Stock → Type 0
IsLast whole list = items_at list (length list - 1) ≡ Some whole

-- some pair is in both sets
abbrev pub HaveCommonPair : PairSet → PairSet → Type 0
HaveCommonPair a b = (r : ℕ) × ((q : ℕ) × Has a r q × Has b r q)

-- for each first operation the pairs that the asked one is shown
abbrev pub AreShownByEach : Asking → ℕ → List PairSet → Type 0
AreShownByEach a start sets = (f : ℕ) → AreShownTo a start f (set_at sets f)

-- words that begin with f and words that begin with g show some operation below the end the same
-- pair
abbrev pub AreJoinedBelow : TypeTable → ℕ → List ℕ → ℕ → ℕ → ℕ → Type 0
AreJoinedBelow t start stock end f g = (o : ℕ) × (o < end) × ((response : ℕ) × ((state : ℕ)
    × Shows t start stock f o response state × Shows t start stock g o response state))

-- for each operation those with which it is joined
abbrev pub AreJoinedSets : TypeTable → ℕ → List ℕ → List ℕ → Type 0
AreJoinedSets t start stock sets = (f g : ℕ) → HasAt sets f g ↔ AreJoined t start stock f g
