-- The states in which words of the operations of a table end.
use Rattle.std.specs.Prelude.{◌≡◌, ℕ, ◌+◌, ◌<◌, ◌↔◌, List, length, slice_index, All, IsBitSet}
use Rattle.cn_table.specs.TypeTable.{TypeTable}
use Rattle.cn_table.specs.Run.{state_after}
use Rattle.cn_choice.specs.declared.limits.TheConstants.{MOST_PROCESSES}
use Rattle.cn_stocks.specs.Each.{EachAt}
use Rattle.cn_reasons.specs.declared.onward.Onward.{Onward}

-- some word of so many operations of the table leads from the one state to the other
abbrev pub EndsIn : TypeTable → ℕ → ℕ → ℕ → Type 0
EndsIn t start count state =
    (word : List ℕ) × All (λ o. o < length t.operations) word × (length word ≡ count)
    × (state_after t start word ≡ state)

-- for each start state, the states in which words of so many operations end
abbrev pub AreEnds : TypeTable → ℕ → List ℕ → Type 0
AreEnds t count row = (start : ℕ) → start < length t.states → (q : ℕ)
    → IsBitSet (slice_index row start) q ↔ EndsIn t start count q

-- the same for each number of operations up to MOST_PROCESSES
abbrev pub AreOnward : TypeTable → Onward → Type 0
AreOnward t o = EachAt (λ count row. AreEnds t count row) (MOST_PROCESSES + 1) o.rows.items
