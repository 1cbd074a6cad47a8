-- What processes get is of the table.
use Rattle.std.proofs.Common.{◌≡◌, ℕ, zero, suc, ◌<◌, ◌≤◌, inl, inr, List, [], ◌∷◌, length, refl}
use Rattle.std.proofs.Common.{sym, subst, arith, nat_eq}
use Rattle.std.specs.Prelude.{IfSome, Option, Some, None, option_map, slice_index, slice_index_or}
use Rattle.std.proofs.lemmas.Bool.{cases_eq, cond-false, cond-true, eq-eqb, ne_eqb}
use Rattle.cn_table.specs.TypeTable.{IsRow, IsTypeTable, TypeTable, no_row, transition}
use Rattle.cn_table.proofs.ReachLemmas.{next_below}
use Rattle.cn_table.proofs.Rows.{all_at}
use Rattle.cn_unread.specs.Nodes.{AreMoves, Scene}
use Rattle.cn_further.specs.FurtherNodes.{AreKnown, further_of, kept_by, kept_with, next_operation}
use Rattle.cn_further.specs.FurtherSights.{IsKnownAnswer, IsKnownSight, IsSight, answer_kept}
use Rattle.cn_further.specs.FurtherSights.{sight_kept}
use Rattle.cn_further.specs.Meetings.{scene_along}
use Rattle.cn_further.specs.SceneLists.{step_by}
use Rattle.cn_further.specs.declared.follow_up.FollowUp.{FollowUp}
use Rattle.cn_further.specs.declared.sight.FurtherAnswer.{FurtherAnswer}
use Rattle.cn_further.specs.declared.sight.FurtherSight.{FurtherSight}
use Rattle.cn_further.proofs.Kept.{further_known, next_known}

response_below : (t : TypeTable) (o p : ℕ) → IsTypeTable t → o < length t.operations
    → p < length t.states → (transition t o p).0 < length t.responses
response_below t o p table operation state =
    let row : IsRow (length t.states) (length t.responses) (slice_index_or t.operations o no_row) =
    all_at (IsRow (length t.states) (length t.responses)) t.operations o no_row operation table.rows in
    all_at (λ q. q < length t.responses) (slice_index_or t.operations o no_row).response p 0
    (rw row.response_len state) row.response

abbrev IsKnownKept : TypeTable → ℕ × ℕ → Type 0
IsKnownKept t x = (x.0 ≤ length t.responses) × (x.1 ≤ length t.responses)

kept_known : (t : TypeTable) (first second r : ℕ) → IsKnownKept t (first, second)
    → r < length t.responses → IsKnownKept t (kept_by first r)
kept_known t zero second r h l = (omega (arith, l), omega arith)
kept_known t (suc first) second r h l = (h.0, omega (arith, l))

abbrev IsKnownScene : TypeTable → Scene → Type 0
IsKnownScene t w = (w.object < length t.states) × ((j : ℕ) → IsKnownKept t (w.kept j))

module _ (t : TypeTable) (table : IsTypeTable t) (state : ℕ) (os : List ℕ) (fs : List FollowUp)
    (state_known : state < length t.states) (known : AreKnown t os fs) where
  step_known : (w : Scene) (i : ℕ) → i < length os → (m : Option ℕ)
      → next_operation os (further_of fs) i (w.kept i) ≡ m → IsKnownScene t w
      → IsKnownScene t (step_by t w i m)
  step_known w i l None e h = h
  step_known w i l (Some o) e h =
      let below : o < length t.operations =
      next_known t fs known.further (slice_index os i) (known.own i 0 l) (w.kept i).0 (w.kept i).1 o e in
      let new : IsKnownKept t (kept_with (w.kept i) (transition t o w.object).0) =
      kept_known t (w.kept i).0 (w.kept i).1 (transition t o w.object).0 (h.1 i)
      (response_below t o w.object table below h.0) in (
        next_below t o w.object table below h.0,
        λ j. elim (cases_eq j i) [
          | inl is ↦ subst (IsKnownKept t) (sym (cond-true (nat_eq j i)
              (kept_with (w.kept i) (transition t o w.object).0) (w.kept j) (eq-eqb j i is))) new
          | inr not ↦ subst (IsKnownKept t) (sym (cond-false (nat_eq j i)
              (kept_with (w.kept i) (transition t o w.object).0) (w.kept j) (ne_eqb j i not))) (h.1 j)
        ],
      )

  along_known : (m : List ℕ) → AreMoves (length os) m
      → IsKnownScene t (scene_along t state os (further_of fs) m)
  along_known [] h = (state_known, λ j. (omega arith, omega arith))
  along_known (i ∷ m) h =
      let w : Scene = scene_along t state os (further_of fs) m in
      step_known w i h.0 (next_operation os (further_of fs) i (w.kept i)) refl (along_known m h.1)

  answer_known : (f : Option FurtherAnswer) (own r : ℕ)
      → option_map (λ a. a.operation.0) f ≡ further_of fs own r
      → answer_kept f ≤ length t.responses → IfSome f (IsKnownAnswer t)
  answer_known None own r e l = tt
  answer_known (Some a) own r e l =
      (further_known t fs known.further own r a.operation.0 (sym e), omega (arith, l))

  pub known_sight : (size : ℕ) (s : FurtherSight) → IsSight t state size os (further_of fs) s
      → IsKnownSight t s
  known_sight size s is =
      let h : IsKnownKept t (sight_kept s) =
      subst (IsKnownKept t) is.kept ((along_known is.moves is.known).1 s.process) in record {
        response = (let low = h.0 in omega (arith, low));
        further = answer_known s.further (slice_index os s.process) s.response.0 is.answer h.1;
      }
