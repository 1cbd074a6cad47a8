use Rattle.std.proofs.Common.{◌≡◌, ◌∙◌, ◌+◌, ℕ, List, [], ◌∷◌, ◌++◌, Bool, cond, append-nil, ap, flat_map, refl, sym}
use Rattle.std.specs.Prelude.{slice_index}
use Rattle.std.specs.List.{range_with_len}
use Rattle.cn_reasons.proofs.Pieces.{pieces_push}
use Rattle.cn_unread_reasons.specs.MergedStates.{merged_if}
use Rattle.cn_unread_reasons.specs.declared.merged.MergedState.{MergedState}
use Rattle.cn_unread_reasons.proofs.merged.merged_states.Goals as goal
use Rattle.cn_unread_reasons.proofs.merged.merged_states.Goals.{then-stands_before+in_ok-push, else-stands_before}

pub loop-state-preserved : goal.loop-state-preserved
loop-state-preserved c =
    let cs : List ℕ = c.args.class_of.now in
    let q = c.loop-state.state in
    let front : List MergedState = c.loop-state.merged.items in
    let m : MergedState = record { state = record { 0 = q }; class = record { 0 = slice_index cs q } } in
    let next : flat_map (merged_if cs) (range_with_len 0 (q + 1)) ≡ front ++ merged_if cs q = rw (pieces_push (merged_if cs) q, c.loop-state.invariant) refl in
    elim c.if-stands_before.branch [
      | then-stands_before+in_ok-push w ↦
          (let here : merged_if cs q ≡ m ∷ [] = ap (λ (b : Bool). cond {A = List MergedState} b (m ∷ []) []) (sym c.stands_before.ensures ∙ w.if-stands_before.true) in
          rw (w.merged-is, next) (w.in_ok-push.ensures.items ∙ ap (λ (xs : List MergedState). front ++ xs) (sym here)))
      | else-stands_before w ↦
          (let none : merged_if cs q ≡ [] = ap (λ (b : Bool). cond {A = List MergedState} b (m ∷ []) []) (sym c.stands_before.ensures ∙ w.if-stands_before.false) in
          rw (w.merged-is, next) (sym (append-nil front) ∙ ap (λ (xs : List MergedState). front ++ xs) (sym none)))
    ]
