-- Responses and states stay among those of the type.
use Rattle.std.proofs.Common.{ℕ, zero, suc, ◌<◌, List, [], ◌∷◌, ◌++◌, length, get_or, subst}
use Rattle.std.specs.Prelude.{slice_index}
use Rattle.std.specs.List.{AllByRecursion}
use Rattle.cn_table.specs.Run.{state_after}
use Rattle.cn_table.specs.TypeTable.{TypeTable, IsTypeTable, IsRow, Row, no_row, transition}
use Rattle.cn_stocks.specs.Words.{Shows}

-- an element of the list, or the default
listed_or : {X : Type 0} (P : X → Type 0) (xs : List X) (k : ℕ) (d : X) → AllByRecursion P xs → P d → P (get_or xs k d)
listed_or P [] k d a h = h
listed_or P (x ∷ xs) zero d a h = a.0
listed_or P (x ∷ xs) (suc k) d a h = listed_or P xs k d a.1 h

record IsKnownRow (t : TypeTable) (row : Row) : Type 0 where
  gives : (s : ℕ) → slice_index row.response s < length t.responses
  leads : (s : ℕ) → slice_index row.next s < length t.states

module _ (t : TypeTable) (is : IsTypeTable t) where
  known_row : (row : Row) → IsRow (length t.states) (length t.responses) row → IsKnownRow t row
  known_row row r = record {
    gives = λ s. listed_or (λ (x : ℕ). x < length t.responses) row.response s 0 r.response is.responses.some;
    leads = λ s. listed_or (λ (x : ℕ). x < length t.states) row.next s 0 r.next is.states.some;
  }

  known_rows : (rows : List Row) → AllByRecursion (IsRow (length t.states) (length t.responses)) rows → AllByRecursion (IsKnownRow t) rows
  known_rows [] a = tt
  known_rows (row ∷ rows) a = (known_row row a.0, known_rows rows a.1)

  known : (o : ℕ) → IsKnownRow t (get_or t.operations o no_row)
  known o = listed_or (IsKnownRow t) t.operations o no_row (known_rows t.operations is.rows) (record { gives = λ s. is.responses.some; leads = λ s. is.states.some })

  -- the response in a state
  pub answer_known : (o q : ℕ) → (transition t o q).0 < length t.responses
  answer_known o q = (known o).gives q

  state_known : (os : List ℕ) (s : ℕ) → s < length t.states → state_after t s os < length t.states
  state_known [] s l = l
  state_known (o ∷ os) s l = state_known os (transition t o s).1 ((known o).leads s)

  pub shows_known : (start : ℕ) (stock : List ℕ) (f o r q : ℕ) → start < length t.states → Shows t start stock f o r q → (r < length t.responses) × (q < length t.states)
  shows_known start stock f o r q l s = (
    subst (λ (x : ℕ). x < length t.responses) s.answer ((known o).gives (state_after t start s.before)),
    subst (λ (x : ℕ). x < length t.states) s.ends (state_known (s.before ++ o ∷ s.after) start l),
  )
