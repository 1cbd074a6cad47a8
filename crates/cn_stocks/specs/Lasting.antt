-- Operations that last: where one process does the one and any number of processes do the other,
-- the state tells for good whether the one was first. Types that are n-discerning for every n.
use Rattle.std.specs.Prelude.{◌≡◌, ◌≢◌, ◌⊎◌, ℕ, ◌<◌, ◌≤◌, List, ◌∷◌, ◌++◌, length, replicate}
use Rattle.cn_table.specs.TypeTable.{TypeTable}
use Rattle.cn_table.specs.Run.{state_after}
use Rattle.cn_choice.specs.Discerning.{IsDiscerning}
use Rattle.cn_stocks.specs.Splits.{AreJoined}

-- the type is n-discerning for each n: it has no greatest number
abbrev pub IsAlwaysDiscerning : TypeTable → Type 0
IsAlwaysDiscerning t = (n : ℕ) → 2 ≤ n → IsDiscerning t n

-- an order that begins with the single operation leaves the state: the single one, and then the
-- other any number of times
abbrev pub SingleFirst : TypeTable → ℕ → ℕ → ℕ → ℕ → Type 0
SingleFirst t start many single state =
    (k : ℕ) × (state_after t start (single ∷ replicate k many) ≡ state)

-- an order that does not begin with the single operation leaves the state: the other one any number
-- of times, also none; or the other one at least once, then the single one, and then the other any
-- number of times
abbrev pub ManyFirst : TypeTable → ℕ → ℕ → ℕ → ℕ → Type 0
ManyFirst t start many single state =
    ((k : ℕ) × (state_after t start (replicate k many) ≡ state))
    ⊎ ((i : ℕ) × (k : ℕ)
    × (state_after t start (many ∷ replicate i many ++ single ∷ replicate k many) ≡ state))

-- two operations of the type last from the start state: no state is left both by an order that
-- begins with the single one and by an order that does not
pub record Lasts (t : TypeTable) (start many single : ℕ) : Type 0 where
  pub start_known : start < length t.states
  pub many_known : many < length t.operations
  pub single_known : single < length t.operations
  pub different : many ≢ single
  pub apart : (state : ℕ) → ManyFirst t start many single state
      → ¬ SingleFirst t start many single state

-- some state is left by both
abbrev pub HaveCommonState : TypeTable → ℕ → ℕ → ℕ → Type 0
HaveCommonState t start many single =
    (state : ℕ) × ManyFirst t start many single state × SingleFirst t start many single state

-- no two operations of the type last from any state
abbrev pub NoneLast : TypeTable → Type 0
NoneLast t =
    (start : ℕ) → start < length t.states → (many : ℕ) → many < length t.operations → (single : ℕ)
    → single < length t.operations → many ≢ single
    → HaveCommonState t start many single

-- the stock of one operation once and of another so many times
abbrev pub single_and : ℕ → ℕ → ℕ → List ℕ
single_and single many k = single ∷ replicate k many

-- words within this stock join the two
abbrev pub EndsAt : TypeTable → ℕ → ℕ → ℕ → ℕ → Type 0
EndsAt t start many single k = AreJoined t start (single_and single many k) many single
