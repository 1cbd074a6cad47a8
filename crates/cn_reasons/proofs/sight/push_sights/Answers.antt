use Rattle.std.proofs.Common.{◌≡◌, ◌∙◌, ◌+◌, ◌++◌, append-nil, append_assoc, ap, flat_map, sym, true≢false}
use Rattle.std.specs.List.{range_with_len}
use Rattle.cn_reasons.specs.Sights.{sight_if}
use Rattle.cn_reasons.proofs.Pieces.{pieces_push}
use Rattle.cn_reasons.proofs.SightLemmas.{kept_here, kept_not}
use Rattle.cn_reasons.proofs.sight.push_sights.Goals as goal
use Rattle.cn_reasons.proofs.sight.push_sights.Goals.{then-has+in_ok-push, else-has}

pub loop-state-preserved : goal.loop-state-preserved
loop-state-preserved c test agree =
    let r = c.args.response in
    let q = c.loop-state.state in
    let front = c.args.sights.now.items in
    let next : front ++ flat_map (sight_if test r) (range_with_len 0 (q + 1)) ≡ c.loop-state.sights.items ++ sight_if test r q =
    rw (pieces_push (sight_if test r) q, c.loop-state.invariant test agree) (sym (append_assoc front (flat_map (sight_if test r) (range_with_len 0 q)) (sight_if test r q))) in
    elim c.if-has.branch [
      | then-has+in_ok-push w ↦
          rw (w.sights-is, next) (w.in_ok-push.ensures.items ∙ ap (λ xs. c.loop-state.sights.items ++ xs) (sym (kept_here test r q ((agree r q).1 (c.has.ensures.found.0 w.if-has.true)))))
      | else-has w ↦
          rw (w.sights-is, next)
          (sym (append-nil c.loop-state.sights.items) ∙ ap (λ xs. c.loop-state.sights.items ++ xs)
          (sym (kept_not test r q (λ h. true≢false (sym (c.has.ensures.found.1 ((agree r q).0 h)) ∙ w.if-has.false)))))
    ]
