use Rattle.std.proofs.Common.{◌≡◌, ◌+◌, ◌-◌, ◌<◌, ◌∙◌, ℕ, List, length, get_or, suc, drop, None, Some, ap, sym, subst, arith}
use Rattle.cn_choice.specs.Rising.{next_rising}
use Rattle.cn_choice.proofs.ListLemmas.NextLists.{next_rising-here}
use Rattle.cn_choice.proofs.rising.advance_numbers.Goals as goal

pub returns-then-value-limit-clause-next : goal.returns-then-value-limit-clause-next
returns-then-value-limit-clause-next c t =
    let list = c.args.list.now in
    let place : ℕ = c.loop-place.place - 1 in
    let next : c.loop-place.place ≡ suc place = omega arith in
    let none : next_rising c.args.limit (drop (suc place) list) ≡ None = subst (λ (k : ℕ). next_rising c.args.limit (drop k list) ≡ None) next c.loop-place.invariant.none in
    let same = c.loop-place.invariant.same in
    let less : get_or list place 0 + 1 < c.args.limit = subst (λ (l : List ℕ). get_or l place 0 + 1 < c.args.limit) same c.if-value-limit.true in
    let inside : place < length list = omega (arith, ap (λ (l : List ℕ). length l) same) in
    next_rising-here c.args.limit list place inside none less ∙ ap Some (sym (rw same at c.raise_from.ensures))
