use Rattle.std.proofs.Common.{◌≡◌, ◌+◌, ◌-◌, ◌<◌, ◌≤◌, ◌∙◌, ℕ, List, suc, All, ap, drop, length, take, subst, arith}
use Rattle.cn_check.proofs.StepLemmas.{step_end, step_on, taken_twice}
use Rattle.cn_check.proofs.steps.step_from.Goals as goal

pub returns-then-list-place-clause-more : goal.returns-then-list-place-clause-more
returns-then-list-place-clause-more c =
    let place : ℕ = c.loop-place.place - 1 in
    let next : c.loop-place.place ≡ suc place = omega arith in
    let behind : All (λ x. c.args.limit ≤ x + 1) (drop (suc place) c.loop-place.list) = subst
    (λ (k : ℕ). All (λ x. c.args.limit ≤ x + 1) (drop k c.loop-place.list)) next c.loop-place.invariant.greatest in
    rw (← c.loop-place.invariant.same)
    (step_on c.args.limit c.loop-place.list place (omega (arith, c.loop-place.auto.place, c.loop-place.auto.list))
    (omega (arith, c.if-list-place.true, c.requires)) behind c.raise_from.new.list c.raise_from.ensures)

pub returns-clause-last : goal.returns-clause-last
returns-clause-last c =
    let none : c.loop-place.place ≡ 0 = omega (arith, c.loop-place-test.false) in
    rw (← c.loop-place.invariant.same) (step_end c.args.limit c.loop-place.list (subst (λ (k : ℕ). All (λ x. c.args.limit ≤ x + 1) (drop k c.loop-place.list)) none c.loop-place.invariant.greatest))

pub returns-then-list-place-clause-front : goal.returns-then-list-place-clause-front
returns-then-list-place-clause-front c =
    let place : ℕ = c.loop-place.place - 1 in
    let inside : place < length c.loop-place.list = omega (arith, c.loop-place.auto.place, c.loop-place.auto.list, c.loop-place-test.true) in
    rw (← c.loop-place.invariant.same) (ap (λ (xs : List ℕ). take place xs) c.raise_from.ensures ∙ taken_twice place c.loop-place.list _ (omega (arith, inside)))
