-- The lines of entries, one at a time.
use Rattle.std.proofs.Common.{◌≡◌, ℕ, zero, suc, List, [], ◌∷◌, ◌++◌, drop, slice_get, Some}
use Rattle.cn_table.specs.TypeTable.{TypeTable, transition}
use Rattle.cn_log.specs.declared.entry.Entry.{Entry}
use Rattle.cn_plan_text.specs.Log.{entry_line, entry_lines}

-- the line of the entry at a place, and then those of the entries behind it
pub lines_at : (object : TypeTable) (state : ℕ) (es : List Entry) (slots : List ℕ) (k slot : ℕ) (e : Entry) → slice_get es k ≡ Some e → slice_get slots k ≡ Some slot
    → entry_lines object state (drop k es) (drop k slots) ≡ entry_line object slot e (transition object e.operation.0 state)
    ++ entry_lines object (transition object e.operation.0 state).1 (drop (suc k) es) (drop (suc k) slots)
lines_at object state [] slots k slot e h g = absurd cc
lines_at object state (x ∷ es) [] k slot e h g = absurd cc
lines_at object state (x ∷ es) (s ∷ slots) zero slot e h g =
    let a : x ≡ e = cc in
    let b : s ≡ slot = cc in
    λ i. entry_line object (b i) (a i) (transition object (a i).operation.0 state) ++ entry_lines object (transition object (a i).operation.0 state).1 es slots
lines_at object state (x ∷ es) (s ∷ slots) (suc k) slot e h g = lines_at object state es slots k slot e h g
