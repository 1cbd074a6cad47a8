-- The states that look alike by a sight.
use Rattle.std.specs.Prelude.{ℕ, ◌≡◌, ◌↔◌, ◌<◌, false, IsBitSet, List, Some, length, slice_get}
use Rattle.cn_table.specs.TypeTable.{TypeTable, transition}
use Rattle.cn_meetings.specs.Meeting.{IsSightOf, sees}
use Rattle.cn_stocks.specs.Each.{EachAt}
use Rattle.cn_stocks.specs.Pairs.{Has}
use Rattle.cn_stocks.specs.declared.pair_sets.PairSet.{PairSet}
use Rattle.cn_divisions.specs.declared.looks.Look.{Look}
use Rattle.cn_meetings.specs.declared.sight.Sight.{Sight}
use Rattle.cn_meetings.specs.Sights.{reads, sight_of}

-- for each response the set of the states in which the operation gets it
abbrev pub AreAnswers : TypeTable → ℕ → List ℕ → Type 0
AreAnswers t o sets = EachAt (λ r set. (q : ℕ) → IsBitSet set q
    ↔ ((q < length t.states) × ((transition t o q).0 ≡ r))) (length t.responses) sets

-- one of the sets has both states
abbrev pub HaveBoth : List ℕ → ℕ → ℕ → Type 0
HaveBoth sets p q = (i : ℕ) × (set : ℕ) × (slice_get sets i ≡ Some set) × IsBitSet set p
    × IsBitSet set q

-- the same is seen of two states exactly if one of the sets has both
abbrev pub AreSeenAlike : TypeTable → Sight → List ℕ → Type 0
AreSeenAlike t sight sets = (p q : ℕ) → p < length t.states → q < length t.states
    → (sees t (sight_of sight) p ≡ sees t (sight_of sight) q) ↔ HaveBoth sets p q

-- a response is in a pair of both sets, with two of these states
abbrev pub ShareResponse : PairSet → PairSet → ℕ → Type 0
ShareResponse a b states = (r : ℕ) × (p : ℕ) × (q : ℕ) × Has a r p × Has b r q
    × IsBitSet states p × IsBitSet states q

-- and with two states of one of these sets
abbrev pub ShareInOne : PairSet → PairSet → List ℕ → Type 0
ShareInOne a b sets = (i : ℕ) × (set : ℕ) × (slice_get sets i ≡ Some set) × ShareResponse a b set

-- where the state is read there is no need of sets
abbrev pub AreSets : TypeTable → Sight → List ℕ → Type 0
AreSets t sight sets = reads sight ≡ false → AreSeenAlike t sight sets

-- a sight of the type, with the states that look alike
pub record IsLook (t : TypeTable) (look : Look) : Type 0 where
  pub known : IsSightOf t (sight_of look.sight)
  pub alike : AreSets t look.sight look.alike.items

-- the looks by these sights
abbrev pub AreLooks : TypeTable → List Sight → List Look → Type 0
AreLooks t sights looks = EachAt (λ i look. (slice_get sights i ≡ Some look.sight)
    × IsLook t look) (length sights) looks
