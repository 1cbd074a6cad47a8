-- What processes see of the state behind their operations.
use Rattle.std.specs.Prelude.{ℕ, ◌≡◌, ◌<◌, length}
use Rattle.cn_table.specs.TypeTable.{TypeTable}
use Rattle.cn_table.specs.declared.limits.TheConstants.{MOST_RESPONSES}
use Rattle.cn_meetings.specs.Meeting as meeting
use Rattle.cn_meetings.specs.Meeting.{sees}
use Rattle.cn_stocks.specs.Pairs.{Has}
use Rattle.cn_stocks.specs.declared.pair_sets.PairSet.{PairSet}

-- a response is in a pair of both sets, and of the states the same is seen
abbrev pub AreAlike : TypeTable → meeting.Sight → PairSet → PairSet → Type 0
AreAlike t sight a b = (r : ℕ) × (p : ℕ) × (q : ℕ) × Has a r p × Has b r q
    × (sees t sight p ≡ sees t sight q)

-- the responses and the states of the pairs are those of the type
abbrev pub IsOf : TypeTable → PairSet → Type 0
IsOf t set = (r q : ℕ) → Has set r q → (r < length t.responses) × (q < length t.states)

-- the responses are among those that a type may have
abbrev pub HasSmallResponses : PairSet → Type 0
HasSmallResponses set = (r q : ℕ) → Has set r q → r < MOST_RESPONSES
