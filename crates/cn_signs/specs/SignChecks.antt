-- What operations show in states of a team: rows have for each operation the set of the responses
-- that are signs.
use Rattle.std.specs.Prelude.{◌≡◌, ◌≢◌, ℕ, ◌<◌, ◌≤◌, ◌⊎◌, ◌↔◌, List, length, slice_index, IsBitSet}
use Rattle.cn_table.specs.TypeTable.{TypeTable, transition}
use Rattle.cn_choice.specs.Renumbering.{other}
use Rattle.cn_choice.specs.declared.team.Team.{Team}
use Rattle.cn_signs.specs.StateSets.{InTeam}
use Rattle.cn_signs.specs.declared.states.SignStates.{SignStates}

-- the operation gets the response in some state with the property
abbrev pub Answers : TypeTable → ℕ → (ℕ → Type 0) → ℕ → Type 0
Answers t o P r = (q : ℕ) × P q × ((transition t o q).0 ≡ r)

-- the signs: each operation gets them in states of the side, and in none of the other team
abbrev pub AreSignRows : TypeTable → SignStates → Team → List ℕ → Type 0
AreSignRows t s side rows = (o : ℕ) → o < length t.operations → (r : ℕ)
    → IsBitSet (slice_index rows o) r
    ↔ (Answers t o (InTeam s side) r × ¬ Answers t o (InTeam s (other side)) r)

-- the response to the operation in the state is a sign
abbrev pub Shows : TypeTable → List ℕ → ℕ → ℕ → Type 0
Shows t rows o q = IsBitSet (slice_index rows o) (transition t o q).0

-- the operation gives a sign in the state, or changes it
abbrev pub Tells : TypeTable → List ℕ → ℕ → ℕ → Type 0
Tells t rows o q = Shows t rows o q ⊎ ((transition t o q).1 ≢ q)

abbrev pub SomeTells : TypeTable → List ℕ → List ℕ → ℕ → Type 0
SomeTells t operations rows q =
    (i : ℕ) × (i < length operations) × Tells t rows (slice_index operations i) q

-- so it is in each state of the set
abbrev pub AllTell : TypeTable → List ℕ → List ℕ → ℕ → Type 0
AllTell t operations rows states =
    (q : ℕ) → IsBitSet states q → SomeTells t operations rows q

-- the operation gives a sign in the state, does not change it, or leads out of the set
abbrev pub LeadsOut : TypeTable → List ℕ → ℕ → ℕ → ℕ → Type 0
LeadsOut t rows set o q = Shows t rows o q ⊎ ((transition t o q).1 ≡ q)
    ⊎ (¬ IsBitSet set (transition t o q).1)

abbrev pub AllLeadOut : TypeTable → List ℕ → List ℕ → ℕ → ℕ → Type 0
AllLeadOut t operations rows set q =
    (i : ℕ) → i < length operations → LeadsOut t rows set (slice_index operations i) q

-- each change without a sign leads from this state of the set out of it
abbrev pub IsEnd : TypeTable → List ℕ → List ℕ → ℕ → ℕ → Type 0
IsEnd t operations rows set q = IsBitSet set q × AllLeadOut t operations rows set q

-- for each state of the set a number, which falls with each change without a sign
pub record HasRanks (t : TypeTable) (operations rows : List ℕ) (states : ℕ) : Type 0 where
  pub rank : ℕ → ℕ
  pub height : ℕ
  pub low : (q : ℕ) → IsBitSet states q → rank q ≤ height
  pub falls : (q i : ℕ) → IsBitSet states q → i < length operations
      → ¬ Shows t rows (slice_index operations i) q
      → (transition t (slice_index operations i) q).1 ≢ q
      → rank (transition t (slice_index operations i) q).1 < rank q
