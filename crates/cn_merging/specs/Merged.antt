-- The merging of all states that no operations tell apart.
use Rattle.std.specs.Prelude.{◌≡◌, ◌≢◌, ℕ, ◌<◌, List, length, slice_index}
use Rattle.cn_table.specs.FewerStates.{with_states}
use Rattle.cn_table.specs.TypeTable.{TypeTable}
use Rattle.cn_unread.specs.Merging.{IsMerged}
use Rattle.cn_merging.specs.Alike.{AreAlike, AreToldApart}

-- the class of each state, in a list
abbrev pub class_in : List ℕ → ℕ → ℕ
class_in class_of q = slice_index class_of q

-- the first states of the classes, in order
pub record AreFirstOfClasses (t : TypeTable) (class_of kept : List ℕ) : Type 0 where
  pub known : (s : ℕ) → s < length kept → slice_index kept s < length t.states
  pub own : (s : ℕ) → s < length kept → slice_index class_of (slice_index kept s) ≡ s
  pub first : (q s : ℕ) → q < length t.states → s < length kept → slice_index class_of q ≡ s
      → q < slice_index kept s → ⊥
  pub ascending : (i j : ℕ) → i < j → j < length kept → slice_index kept i < slice_index kept j

-- u is t with its states merged to classes: in one class are all states that no operations tell apart,
-- and the first of them stands for it
pub record IsWhollyMerged (t u : TypeTable) (class_of : List ℕ) : Type 0 where
  pub merged : IsMerged (class_in class_of) t u
  pub each : length class_of ≡ length t.states
  pub alike : (p q : ℕ) → p < length t.states → q < length t.states
      → slice_index class_of p ≡ slice_index class_of q → AreAlike t p q
  pub apart : (p q : ℕ) → p < length u.states → q < length u.states → p ≢ q → AreToldApart u p q
  pub kept : (kept : List ℕ) × AreFirstOfClasses t class_of kept × (u ≡ with_states t kept class_of)

-- operations tell any two different states apart
abbrev pub AllAreToldApart : TypeTable → Type 0
AllAreToldApart t = (p q : ℕ) → p < length t.states → q < length t.states → p ≢ q
    → AreToldApart t p q
