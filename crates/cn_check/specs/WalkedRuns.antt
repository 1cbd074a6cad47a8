-- What a walk through the runs has found.
use Rattle.std.specs.Prelude.{◌≢◌, ℕ, ◌+◌, ◌*◌, ◌<◌, ◌↔◌, List, slice_index}
use Rattle.cn_choice.specs.declared.limits.TheConstants.{MOST_PROCESSES}
use Rattle.cn_table.specs.TypeTable.{TypeTable}
use Rattle.cn_choice.specs.RawChoices.{RawChoice}
use Rattle.cn_check.specs.Runs.{EndsIn, IsIn, ShowsFrom}
use Rattle.cn_table.specs.declared.limits.TheConstants.{MOST_RESPONSES, MOST_STATES}

-- process j has the pair of response r and state q; the list has a set of states for each process
-- and response, process by process
abbrev pub HasPair : List ℕ → ℕ → ℕ → ℕ → Type 0
HasPair sets j r q =
    (j < MOST_PROCESSES) × (r < MOST_RESPONSES) × IsIn (slice_index sets (MOST_RESPONSES * j + r)) q

-- process j has some pair in both
abbrev pub HasPairInBoth : List ℕ → List ℕ → ℕ → Type 0
HasPairInBoth sets others j = (r : ℕ) × (q : ℕ) × HasPair sets j r q × HasPair others j r q

-- the set that is kept for a point; the list has one for each set of processes and each state
abbrev pub ends_at : List ℕ → ℕ → ℕ → ℕ
ends_at end_sets used state = slice_index end_sets (MOST_STATES * used + state)

-- a set that is not 0 holds the states in which the runs from its point end, and all pairs that
-- these runs show are there
pub record AreWalked (t : TypeTable) (c : RawChoice) (end_sets sets : List ℕ) : Type 0 where
  pub ends : (used state q : ℕ) → state < MOST_STATES → ends_at end_sets used state ≢ 0
      → IsIn (ends_at end_sets used state) q ↔ EndsIn t c used state q
  pub shown : (used state j r q : ℕ) → state < MOST_STATES → ends_at end_sets used state ≢ 0
      → ShowsFrom t c used state j r q → HasPair sets j r q
