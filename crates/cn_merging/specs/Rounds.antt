-- Rounds: the classes of states, by the first state of each, and finer classes.
use Rattle.std.specs.Prelude.{◌≡◌, ◌≢◌, ◌⊎◌, ℕ, ◌<◌, ◌≤◌, List, length, slice_index}
use Rattle.cn_table.specs.TypeTable.{TypeTable, transition}

-- each operation gives the same response in both states, and leads to states of one class
abbrev pub Agree : TypeTable → List ℕ → ℕ → ℕ → Type 0
Agree t firsts p q = (o : ℕ) → o < length t.operations
    → ((transition t o p).0 ≡ (transition t o q).0)
    × (slice_index firsts (transition t o p).1 ≡ slice_index firsts (transition t o q).1)

-- some operation does not
abbrev pub Disagree : TypeTable → List ℕ → ℕ → ℕ → Type 0
Disagree t firsts p q = (o : ℕ) × (o < length t.operations)
    × (((transition t o p).0 ≢ (transition t o q).0)
    ⊎ (slice_index firsts (transition t o p).1 ≢ slice_index firsts (transition t o q).1))

-- the first state of the class of q that agrees with it
pub record IsFirstAgreeing (t : TypeTable) (firsts : List ℕ) (q first : ℕ) : Type 0 where
  pub known : first ≤ q
  pub same : slice_index firsts first ≡ slice_index firsts q
  pub agree : Agree t firsts first q
  pub before : (p : ℕ) → p < first
      → (slice_index firsts p ≢ slice_index firsts q) ⊎ Disagree t firsts p q

-- the classes after a round: states of one class that agree
pub record IsRound (t : TypeTable) (firsts finer : List ℕ) : Type 0 where
  pub long : length finer ≡ length t.states
  pub each : (q : ℕ) → q < length t.states → IsFirstAgreeing t firsts q (slice_index finer q)
