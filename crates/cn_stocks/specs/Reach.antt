-- What words within a stock lead to, whichever operation they begin with.
use Rattle.std.specs.Prelude.{◌≡◌, ℕ, ◌<◌, ◌↔◌, List, ◌∷◌, ◌++◌, length, slice_index, IsBitSet}
use Rattle.std.specs.declared.alloc.Global.{Global}
use Rattle.std.specs.declared.vec.Vec.{Vec}
use Rattle.cn_table.specs.TypeTable.{TypeTable, transition}
use Rattle.cn_table.specs.Run.{state_after}
use Rattle.cn_stocks.specs.declared.pair_sets.PairSet.{PairSet}
use Rattle.cn_stocks.specs.Each.{EachAt}
use Rattle.cn_stocks.specs.Pairs.{Has, set_at}
use Rattle.cn_stocks.specs.Words.{HaveSame, IsWithin}

-- some word within the stock ends in the state, the empty word too
abbrev pub EndsWithin : TypeTable → ℕ → List ℕ → ℕ → Type 0
EndsWithin t start stock state =
    (word : List ℕ) × IsWithin stock word × (state_after t start word ≡ state)

-- some word within the stock has o at a place where o gets the response, and ends in the state
pub record ShowsWithin (t : TypeTable) (start : ℕ) (stock : List ℕ)
    (o response state : ℕ) : Type 0 where
  pub before : List ℕ
  pub after : List ℕ
  pub within : IsWithin stock (before ++ o ∷ after)
  pub answer : (transition t o (state_after t start before)).0 ≡ response
  pub ends : state_after t start (before ++ o ∷ after) ≡ state

-- a word within the stock that begins with o shows o the pair at its first place
abbrev pub ShowsAtOnce : TypeTable → ℕ → List ℕ → ℕ → ℕ → ℕ → Type 0
ShowsAtOnce t start stock o response state =
    (rest : List ℕ) × HaveSame stock (o ∷ rest) × ((transition t o start).0 ≡ response)
    × EndsWithin t (transition t o start).1 rest state

-- the states in which words within the stock end, for each start state below the end
abbrev pub AreEnds : TypeTable → List ℕ → ℕ → List ℕ → Type 0
AreEnds t stock end ends = (start : ℕ) → start < end → (q : ℕ)
    → IsBitSet (slice_index ends start) q ↔ EndsWithin t start stock q

-- the pairs that words within the stock show o
abbrev pub ArePairs : TypeTable → ℕ → List ℕ → ℕ → PairSet → Type 0
ArePairs t start stock o set = (r q : ℕ) → Has set r q ↔ ShowsWithin t start stock o r q

-- these pairs for each start state; where there is no set there are no pairs
abbrev pub ArePairsTo : TypeTable → List ℕ → ℕ → List PairSet → Type 0
ArePairsTo t stock o sets = (start : ℕ) → start < length t.states
    → ArePairs t start stock o (set_at sets start)

-- the pairs that words within the stock show, for each operation and each start state
abbrev pub AreShown : TypeTable → List ℕ → List (Vec PairSet Global) → Type 0
AreShown t stock rows = EachAt (λ o row. ArePairsTo t stock o row.items) (length t.operations) rows
