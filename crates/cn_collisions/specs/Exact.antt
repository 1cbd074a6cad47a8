-- What words of exactly so many operations within a stock lead to.
use Rattle.std.specs.Prelude.{◌≡◌, ℕ, ◌+◌, ◌<◌, ◌↔◌, List, ◌∷◌, ◌++◌, length, slice_index, IsBitSet}
use Rattle.cn_table.specs.TypeTable.{TypeTable, transition}
use Rattle.cn_table.specs.Run.{state_after}
use Rattle.cn_stocks.specs.declared.pair_sets.PairSet.{PairSet}
use Rattle.cn_stocks.specs.Pairs.{Has}
use Rattle.cn_stocks.specs.Words.{IsWithin}

-- some word of k operations within the stock ends in the state
abbrev pub EndsAfter : TypeTable → ℕ → List ℕ → ℕ → ℕ → Type 0
EndsAfter t start stock k state =
    (word : List ℕ) × IsWithin stock word × (length word ≡ k) × (state_after t start word ≡ state)

-- o is put into some word of k operations within the stock at a place where it gets the response,
-- and the run ends in the state
pub record ShowsAfter (t : TypeTable) (start : ℕ) (stock : List ℕ)
    (o k response state : ℕ) : Type 0 where
  pub before : List ℕ
  pub after : List ℕ
  pub within : IsWithin stock (before ++ after)
  pub long : length before + length after ≡ k
  pub answer : (transition t o (state_after t start before)).0 ≡ response
  pub ends : state_after t start (before ++ o ∷ after) ≡ state

-- o is put before some word of k operations within the stock, where it gets the response, and the
-- run ends in the state
abbrev pub ShowsNow : TypeTable → ℕ → List ℕ → ℕ → ℕ → ℕ → ℕ → Type 0
ShowsNow t start stock o k response state =
    ((transition t o start).0 ≡ response) × EndsAfter t (transition t o start).1 stock k state

-- the states in which words of k operations end, for each start state below the end
abbrev pub AreEndsAfter : TypeTable → List ℕ → ℕ → ℕ → List ℕ → Type 0
AreEndsAfter t stock k end row = (start : ℕ) → start < end → (q : ℕ)
    → IsBitSet (slice_index row start) q ↔ EndsAfter t start stock k q

-- the pairs that words of k operations show o
abbrev pub ArePairsAfter : TypeTable → ℕ → List ℕ → ℕ → ℕ → PairSet → Type 0
ArePairsAfter t start stock o k set = (r q : ℕ) → Has set r q ↔ ShowsAfter t start stock o k r q

-- some word of at most m operations within the stock ends in the state
abbrev pub EndsUpTo : TypeTable → ℕ → List ℕ → ℕ → ℕ → Type 0
EndsUpTo t start stock m state = (k : ℕ) × (k < m + 1) × EndsAfter t start stock k state

-- o is put into some word of at most m operations so
abbrev pub ShowsUpTo : TypeTable → ℕ → List ℕ → ℕ → ℕ → ℕ → ℕ → Type 0
ShowsUpTo t start stock o m response state =
    (k : ℕ) × (k < m + 1) × ShowsAfter t start stock o k response state

-- the states in which words of at most m operations end, for each start state below the end
abbrev pub AreEndsUpTo : TypeTable → List ℕ → ℕ → ℕ → List ℕ → Type 0
AreEndsUpTo t stock m end row = (start : ℕ) → start < end → (q : ℕ)
    → IsBitSet (slice_index row start) q ↔ EndsUpTo t start stock m q

-- the pairs that words of at most m operations show o
abbrev pub ArePairsUpTo : TypeTable → ℕ → List ℕ → ℕ → ℕ → PairSet → Type 0
ArePairsUpTo t start stock o m set = (r q : ℕ) → Has set r q ↔ ShowsUpTo t start stock o m r q
