-- What a process judges has a response of the type, and can be seen by the sight of the node.
use Rattle.std.proofs.Common.{◌≡◌, ℕ, zero, suc, ◌+◌, ◌<◌, List, [], ◌∷◌, length, get_or, subst, Some, All, slice_index_or, arith}
use Rattle.std.specs.Prelude.{slice_index}
use Rattle.std.specs.List.{AllByRecursion, slice_get}
use Rattle.std.proofs.lemmas.List.Elements.{Contains-get_or}
use Rattle.cn_table.specs.TypeTable.{IsRow, IsTypeTable, Row, TypeTable, no_row}
use Rattle.cn_meetings.specs.Meeting.{Meeting, Sight, act, sees}
use Rattle.cn_meetings.specs.Meeting.Sight.{Nothing, Response, State}
use Rattle.cn_meetings.specs.Sights.{sight_of}
use Rattle.cn_meetings.specs.Witness.{Has}
use Rattle.cn_proto.specs.Order.{after, answers}
use Rattle.cn_proto.proofs.Reachable.{after_below}
use Rattle.cn_trees.specs.Tree.{comes_to, nodes_in}
use Rattle.cn_tree_plans.specs.Plan.{IsTreePlan, TreePlan, judged_at, no_meeting, tree_of}
use Rattle.cn_tree_plans.specs.Sights.{seen_count}
use Rattle.cn_tree_plans.specs.declared.judged.Judged.{Judged}

-- an element of the list, or the default
listed_or : {X : Type 0} (P : X → Type 0) (xs : List X) (k : ℕ) (d : X) → AllByRecursion P xs → P d → P (get_or xs k d)
listed_or P [] k d a h = h
listed_or P (x ∷ xs) zero d a h = a.0
listed_or P (x ∷ xs) (suc k) d a h = listed_or P xs k d a.1 h

-- the entries of a row are responses and states of the type
record IsKnown (t : TypeTable) (row : Row) : Type 0 where
  gives : (s : ℕ) → slice_index row.response s < length t.responses
  leads : (s : ℕ) → slice_index row.next s < length t.states

module _ (t : TypeTable) (is : IsTypeTable t) where
  known_row : (row : Row) → IsRow (length t.states) (length t.responses) row → IsKnown t row
  known_row row r = record {
    gives = λ s. listed_or (λ (x : ℕ). x < length t.responses) row.response s 0 r.response is.responses.some;
    leads = λ s. listed_or (λ (x : ℕ). x < length t.states) row.next s 0 r.next is.states.some;
  }

  known_rows : (rows : List Row) → AllByRecursion (IsRow (length t.states) (length t.responses)) rows → AllByRecursion (IsKnown t) rows
  known_rows [] a = tt
  known_rows (row ∷ rows) a = (known_row row a.0, known_rows rows a.1)

  known : (o : ℕ) → IsKnown t (get_or t.operations o no_row)
  known o = listed_or (IsKnown t) t.operations o no_row (known_rows t.operations is.rows) (record { gives = λ s. is.responses.some; leads = λ s. is.states.some })

  after_known : (M : Meeting) (order : List ℕ) (s : ℕ) → s < length t.states → after (act t M) s order < length t.states
  after_known M = after_below (act t M) (length t.states) (λ p. (known (M.operation p)).leads)

  answer_known : (M : Meeting) (order : List ℕ) (s k r : ℕ) → slice_get (answers (act t M) s order) k ≡ Some r → r < length t.responses
  answer_known M [] s k r h = absurd (cc h)
  answer_known M (p ∷ order) s zero r h =
      let same : (act t M p s).0 ≡ r = cc in
      subst (λ (x : ℕ). x < length t.responses) same ((known (M.operation p)).gives s)
  answer_known M (p ∷ order) s (suc k) r h = answer_known M order (act t M p s).1 k r h

  pub seen_known : (sight : Sight) (q : ℕ) → q < length t.states → sees t sight q < seen_count t sight
  seen_known State q l = l
  seen_known Nothing q l = omega arith
  seen_known (Response o) q l = (known o).gives q

-- each judgement of a process of a node
pub judged_known : (plan : TreePlan) → IsTreePlan plan → (v p : ℕ) → v < 1 + nodes_in plan.teams → Has (comes_to plan.teams v) p
    → All (λ (j : Judged). (j.response.0 < length plan.table.responses) × (j.saw < seen_count plan.table (sight_of (slice_index_or plan.meetings v no_meeting).sight))) (judged_at plan v p)
judged_known plan is v p lv comes = λ k d lt.
    let j : Judged = slice_index_or (judged_at plan v p) k d in
    let shown = (is.judged.exact v p j comes).0 (Contains-get_or (judged_at plan v p) k d lt) in
    let M : Meeting = (tree_of plan).meeting v in
    let response : j.response.0 < length plan.table.responses =
    answer_known plan.table is.known M shown.0 M.start shown.1.answered.0 j.response.0 shown.1.answered.2 in
    let last = after_known plan.table is.known M shown.0 M.start (is.fits.starts v lv) in
    let sight : Sight = sight_of (slice_index_or plan.meetings v no_meeting).sight in
    let saw : j.saw < seen_count plan.table sight =
    subst (λ (x : ℕ). x < seen_count plan.table sight) shown.1.last_state (seen_known plan.table is.known sight (after (act plan.table M) M.start shown.0) last) in
    (response, saw)
