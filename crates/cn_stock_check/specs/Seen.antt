-- What words show that begin with one of some operations, and have each operation at most so often as
-- is counted.
use Rattle.std.specs.Prelude.{◌≡◌, ◌↔◌, ◌⊎◌, ℕ, ◌<◌, ◌≤◌, List, [], ◌∷◌, ◌++◌, length, slice_index, Contains, Some}
use Rattle.std.specs.BTreeMap.{BTreeMap, get}
use Rattle.std.specs.Cmp.Lexicographic.{slice_cmp}
use Rattle.std.specs.Ordering.{nat_cmp}
use Rattle.cn_table.specs.TypeTable.{TypeTable, transition}
use Rattle.cn_table.specs.Run.{state_after}
use Rattle.cn_choice.specs.Canonical.{raw_choice_of}
use Rattle.cn_choice.specs.RawChoices.{RawChoice}
use Rattle.cn_stocks.specs.Words.{times}
use Rattle.cn_stock_check.specs.Sets.{IsIn}
use Rattle.cn_stock_check.specs.declared.seen.Seen.{Seen}

-- no operation stands in the word more often than is counted
abbrev pub HasRoom : List ℕ → List ℕ → Type 0
HasRoom counts word = (o : ℕ) → times o word ≤ slice_index counts o

-- the word begins with an operation of the team
abbrev pub BeginsAmong : List ℕ → List ℕ → Type 0
BeginsAmong team [] = ⊥
BeginsAmong team (x ∷ xs) = Contains team x

-- some such word leaves the state
pub record Leaves (t : TypeTable) (start : ℕ) (team counts : List ℕ) (state : ℕ) : Type 0 where
  pub word : List ℕ
  pub room : HasRoom counts word
  pub begins : BeginsAmong team word
  pub ends : state_after t start word ≡ state

-- some such word has o at a place where o gets the response, and leaves the state
pub record ShowsAmong (t : TypeTable) (start : ℕ) (team counts : List ℕ)
    (o response state : ℕ) : Type 0 where
  pub before : List ℕ
  pub after : List ℕ
  pub room : HasRoom counts (before ++ o ∷ after)
  pub begins : BeginsAmong team (before ++ o ∷ after)
  pub answer : (transition t o (state_after t start before)).0 ≡ response
  pub ends : state_after t start (before ++ o ∷ after) ≡ state

-- one that begins with an operation of the one team and one that begins with an operation of the other
-- show the operation the same pair; they show some operation the same pair
abbrev pub TeamsMeetAt : TypeTable → ℕ → List ℕ → List ℕ → List ℕ → ℕ → Type 0
TeamsMeetAt t start a b counts o = (response : ℕ) × (state : ℕ)
    × ShowsAmong t start a counts o response state × ShowsAmong t start b counts o response state

abbrev pub TeamsMeet : TypeTable → ℕ → List ℕ → List ℕ → List ℕ → Type 0
TeamsMeet t start a b counts = (o : ℕ) × TeamsMeetAt t start a b counts o

-- the states that such words leave, and for each response the states that those leave which show o
-- this response
pub record AreSeen (t : TypeTable) (start : ℕ) (team counts : List ℕ) (o : ℕ) (seen : Seen) : Type 0 where
  pub states : (q : ℕ) → IsIn seen.states q ↔ Leaves t start team counts q
  pub pairs : (r q : ℕ) → IsIn (slice_index seen.pairs r) q ↔ ShowsAmong t start team counts o r q

-- only operations of the type are counted
abbrev pub AreCounts : TypeTable → List ℕ → Type 0
AreCounts t counts = (o : ℕ) → 1 ≤ slice_index counts o → o < length t.operations

-- what is found, by the counts, is right
abbrev pub AreFound : TypeTable → ℕ → List ℕ → ℕ → BTreeMap (List ℕ) Seen → Type 0
AreFound t start team o found = (counts : List ℕ) (seen : Seen)
    → get (slice_cmp nat_cmp) found counts ≡ Some seen → AreSeen t start team counts o seen

-- the operation can come next in the state: a word so far has left it, or the word begins there with
-- an operation of the team
abbrev pub ComesNext : ℕ → List ℕ → ℕ → ℕ → ℕ → Type 0
ComesNext start team x states p = IsIn states p ⊎ (Contains team x × (p ≡ start))

-- it leads to the state
abbrev pub LeadsTo : TypeTable → ℕ → List ℕ → ℕ → ℕ → ℕ → Type 0
LeadsTo t start team x states q = (p : ℕ) × (p < length t.states)
    × ComesNext start team x states p × ((transition t x p).1 ≡ q)

-- the pair is shown by words whose last operation is x: one before it is shown the response, or x is
-- asked and gets it
abbrev pub ShowsLast : TypeTable → ℕ → List ℕ → ℕ → ℕ → Seen → ℕ → ℕ → Type 0
ShowsLast t start team o x less r q =
    ((p : ℕ) × (p < length t.states) × IsIn (slice_index less.pairs r) p
    × ((transition t x p).1 ≡ q))
    ⊎ ((x ≡ o) × ((p : ℕ) × (p < length t.states) × ComesNext start team x less.states p
    × (transition t x p ≡ (r, q))))

-- the choice of a start state and of the operations of the teams
abbrev pub choice_from : ℕ → List ℕ → List ℕ → RawChoice
choice_from start a b = raw_choice_of (record { state = start; a = a; b = b })
