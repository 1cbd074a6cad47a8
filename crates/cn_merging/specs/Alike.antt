-- States that operations tell apart by their responses, and states that none do.
use Rattle.std.specs.Prelude.{◌≡◌, ◌≢◌, ℕ, ◌<◌, ◌≤◌, List, length, slice_index}
use Rattle.cn_table.specs.Run.{responses_along}
use Rattle.cn_table.specs.TypeTable.{TypeTable}
use Rattle.cn_unread.specs.Undisturbed.{AreOperations, IsQuiet}

-- some list of operations gets other responses from p than from q
abbrev pub AreToldApart : TypeTable → ℕ → ℕ → Type 0
AreToldApart t p q = (os : List ℕ) × AreOperations t os
    × (responses_along t p os ≢ responses_along t q os)

-- every list of operations gets the same responses from p as from q
abbrev pub AreAlike : TypeTable → ℕ → ℕ → Type 0
AreAlike t p q = (os : List ℕ) → AreOperations t os → IsQuiet t p q os

-- for each state the first one that is like it
pub record AreFirsts (t : TypeTable) (firsts : List ℕ) : Type 0 where
  pub long : length firsts ≡ length t.states
  pub known : (q : ℕ) → q < length t.states → slice_index firsts q ≤ q
  pub alike : (q : ℕ) → q < length t.states → AreAlike t (slice_index firsts q) q
  pub before : (p q : ℕ) → q < length t.states → p < slice_index firsts q → AreToldApart t p q
