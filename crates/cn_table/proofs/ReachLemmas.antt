-- Marks on states that are closed under the operations.
use Rattle.std.proofs.Common.{◌≡◌, ℕ, zero, suc, ◌<◌, ◌≤◌, List, [], ◌∷◌, ◌++◌, length, get_or, set, Bool, true, false, ◌⊎◌, inl, inr, arith, refl, ap, sym, ◌∙◌}
use Rattle.std.specs.Prelude.{replicate}
use Rattle.std.proofs.lemmas.Bool.{false≢true}
use Rattle.std.specs.List.{AllByRecursion, slice_index_or}
use Rattle.cn_table.specs.TypeTable.{TypeTable, IsTypeTable, IsRow, transition, no_row}
use Rattle.cn_table.specs.Run.{state_after}
use Rattle.cn_table.specs.Reach.{Leads}
use Rattle.cn_table.proofs.Rows.{all_at}

-- how many marks there are
abbrev pub marks : List Bool → ℕ
marks [] = 0
marks (true ∷ ms) = suc (marks ms)
marks (false ∷ ms) = marks ms

pub marks_few : (ms : List Bool) → marks ms ≤ length ms
marks_few [] = omega arith
marks_few (true ∷ ms) = let rest = marks_few ms in omega arith
marks_few (false ∷ ms) = let rest = marks_few ms in omega arith

-- a new mark raises the number of marks by one
pub marks_more : (ms : List Bool) (q : ℕ) → q < length ms → get_or ms q false ≡ false → marks (set ms q true) ≡ suc (marks ms)
marks_more [] q within off = absurd (omega arith)
marks_more (true ∷ ms) zero within off = absurd cc
marks_more (false ∷ ms) zero within off = refl
marks_more (true ∷ ms) (suc q) within off = ap suc (marks_more ms q (omega arith) off)
marks_more (false ∷ ms) (suc q) within off = marks_more ms q (omega arith) off

-- the state to which an operation leads is one of the type's
pub next_below : (t : TypeTable) (o p : ℕ) → IsTypeTable t → o < length t.operations → p < length t.states → (transition t o p).1 < length t.states
next_below t o p table operation state =
    let row : IsRow (length t.states) (length t.responses) (slice_index_or t.operations o no_row) = all_at (IsRow (length t.states) (length t.responses)) t.operations o no_row operation table.rows in
    all_at (λ q. q < length t.states) (slice_index_or t.operations o no_row).next p 0 (rw row.next_len state) row.next

-- if the marks are closed, each reached state is marked
pub reached_is_marked : (t : TypeTable) (ms : List Bool) → IsTypeTable t
    → ((p : ℕ) → p < length t.states → get_or ms p false ≡ true → (o : ℕ) → o < length t.operations → get_or ms (transition t o p).1 false ≡ true)
    → (p : ℕ) → p < length t.states → get_or ms p false ≡ true → (os : List ℕ) → AllByRecursion (λ o. o < length t.operations) os
    → get_or ms (state_after t p os) false ≡ true
reached_is_marked t ms table closed p within marked [] known = marked
reached_is_marked t ms table closed p within marked (o ∷ os) known =
    reached_is_marked t ms table closed (transition t o p).1 (next_below t o p table known.0 within) (closed p within marked o known.0) os known.1

-- the state after one operation more
after_one_more : (t : TypeTable) (p o : ℕ) (os : List ℕ) → state_after t p (os ++ o ∷ []) ≡ (transition t o (state_after t p os)).1
after_one_more t p o [] = refl
after_one_more t p o (x ∷ os) = after_one_more t (transition t x p).1 o os

known_one_more : (n o : ℕ) (os : List ℕ) → AllByRecursion (λ o. o < n) os → o < n → AllByRecursion (λ o. o < n) (os ++ o ∷ [])
known_one_more n o [] known here = (here, tt)
known_one_more n o (x ∷ os) known here = (known.0, known_one_more n o os known.1 here)

pub leads_on : (t : TypeTable) (p q r o : ℕ) → Leads t p q → o < length t.operations → (transition t o q).1 ≡ r → Leads t p r
leads_on t p q r o way operation to = record {
  operations = way.operations ++ o ∷ [];
  known = known_one_more (length t.operations) o way.operations way.known operation;
  last = after_one_more t p o way.operations ∙ (ap (λ x. (transition t o x).1) way.last ∙ to);
}

-- ---- marks in an array

pub set_length : (ms : List Bool) (q : ℕ) → length (set ms q true) ≡ length ms
set_length [] q = refl
set_length (m ∷ ms) zero = refl
set_length (m ∷ ms) (suc q) = ap suc (set_length ms q)

pub set_keeps : (ms : List Bool) (q k : ℕ) → get_or ms k false ≡ true → get_or (set ms q true) k false ≡ true
set_keeps [] q k on = on
set_keeps (m ∷ ms) zero zero on = refl
set_keeps (m ∷ ms) zero (suc k) on = on
set_keeps (m ∷ ms) (suc q) zero on = on
set_keeps (m ∷ ms) (suc q) (suc k) on = set_keeps ms q k on

pub set_from : (ms : List Bool) (q k : ℕ) → get_or (set ms q true) k false ≡ true → (k ≡ q) ⊎ (get_or ms k false ≡ true)
set_from [] q k on = inr on
set_from (m ∷ ms) zero zero on = inl refl
set_from (m ∷ ms) zero (suc k) on = inr on
set_from (m ∷ ms) (suc q) zero on = inr on
set_from (m ∷ ms) (suc q) (suc k) on = elim (set_from ms q k on) [ inl e ↦ inl (ap suc e) | inr h ↦ inr h ]

unmarked : (n q : ℕ) → get_or (replicate n false) q false ≡ false
unmarked zero q = refl
unmarked (suc n) zero = refl
unmarked (suc n) (suc q) = unmarked n q

-- if a list has one mark in front and none behind it, the mark is at place 0
pub first_alone : (n q : ℕ) → get_or (true ∷ replicate n false) q false ≡ true → q ≡ 0
first_alone n zero on = refl
first_alone n (suc q) on = absurd (false≢true (sym (unmarked n q) ∙ on))

pub at_first : (t : TypeTable) → Leads t 0 0
at_first t = record { operations = []; known = tt; last = refl }
