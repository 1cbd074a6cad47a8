use Rattle.std.proofs.Common.{◌≡◌, ◌-◌, ◌+◌, ◌<◌, ◌∙◌, ℕ, List, suc, drop, get_or, length, None, Some, ap, sym, subst, arith}
use Rattle.cn_choice.specs.Ranks.{next_ranks}
use Rattle.cn_choice.proofs.OrderLemmas.Ranks.{next_ranks-here}
use Rattle.cn_choice.proofs.ranks.raise_ranks.Goals as goal

pub returns-then-from-place-clause-next : goal.returns-then-from-place-clause-next
returns-then-from-place-clause-next c t =
    let list = c.args.ranks.now in
    let place : ℕ = c.loop-place.place - 1 in
    let next : c.loop-place.place ≡ suc place = omega arith in
    let none : next_ranks (c.args.n - suc place) (drop (suc place) list) ≡ None = subst (λ (k : ℕ). next_ranks (c.args.n - k) (drop k list) ≡ None) next c.loop-place.invariant.none in
    let same = c.loop-place.invariant.same in
    let less : get_or list place 0 + 1 + place < c.args.n =
    subst (λ (l : List ℕ). get_or l place 0 + 1 + place < c.args.n) same (omega (arith, c.from.ensures, c.from-in-loop-place.ensures, c.if-from-place.true)) in
    let inside : place < length list = omega (arith, ap (λ (l : List ℕ). length l) same) in
    next_ranks-here c.args.n list place inside none less ∙ ap Some (sym (rw same at c.raise_from.ensures))
