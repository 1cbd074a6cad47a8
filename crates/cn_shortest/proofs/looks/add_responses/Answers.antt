use Rattle.std.proofs.Common.{ℕ, List, suc, ◌≡◌, ◌+◌, ◌∙◌, ◌++◌, ◌∷◌, [], append_assoc, append-nil, ap, arith, get_or, length, map, sym, take}
use Rattle.cn_meetings.specs.declared.sight.Sight.{Sight}
use Rattle.cn_shortest.specs.Looks.{by_response}
use Rattle.cn_shortest.proofs.Listing.{mapped_all, mapped_taken}
use Rattle.cn_shortest.proofs.looks.add_responses.Goals as goal

pub loop-place-init : goal.loop-place-init
loop-place-init c = sym (append-nil c.args.sights.now.items)

pub loop-place-preserved : goal.loop-place-preserved
loop-place-preserved c =
    let list = c.as_slice-list.result.now in
    let k = c.loop-place.place in
    let old = c.args.sights.now.items in
    let x : Sight = by_response (get_or list k 0) in
    let next : suc k ≡ k + 1 = omega arith in
    c.in_ok-push.ensures.items
    ∙ (ap (λ (xs : List Sight). xs ++ x ∷ []) c.loop-place.invariant
    ∙ (append_assoc old (map by_response (take k list)) (x ∷ [])
    ∙ ap (λ (xs : List Sight). old ++ xs) (sym (mapped_taken list k c.loop-place-test.true) ∙ ap (λ (j : ℕ). map by_response (take j list)) next)))

pub returns : goal.returns
returns c =
    let list = c.as_slice-list.result.now in
    let k = c.loop-place.place in
    let old = c.args.sights.now.items in (
      c.silent_operations-silent.result.items,
      c.silent_operations-silent.ensures.listed,
      c.loop-place.invariant ∙ ap (λ (xs : List Sight). old ++ xs) (mapped_all list k (omega (arith, c.loop-place-test.false)) ∙ ap (map by_response) c.as_slice-list.ensures.value),
    )
