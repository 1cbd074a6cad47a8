use Rattle.std.proofs.Common.{ℕ, suc, ◌≡◌, ◌+◌, ◌++◌, ◌∷◌, [], List, ap, arith, length, ◌∙◌, sym}
use Rattle.std.specs.List.{range_with_len}
use Rattle.std.proofs.lemmas.List.FromFn.{length-range_with_len}
use Rattle.cn_choice.proofs.OrderLemmas.NextOrders.{range_more}
use Rattle.cn_choice.proofs.ranks.numbers_below.Goals as goal

pub push-requires : goal.push-requires
push-requires c = omega (arith, ap length c.loop-number.invariant, length-range_with_len 0 c.loop-number.number, c.requires, c.loop-number-test.true)

pub loop-number-preserved : goal.loop-number-preserved
loop-number-preserved c =
    let k : ℕ = c.loop-number.number in
    let next : k + 1 ≡ suc k = omega arith in
    let here : k ≡ 0 + k = omega arith in
    c.push.ensures.items
    ∙ (ap (λ (xs : List ℕ). xs ++ k ∷ []) c.loop-number.invariant
    ∙ (ap (λ (i : ℕ). range_with_len 0 k ++ i ∷ []) here
    ∙ (sym (range_more 0 k) ∙ ap (range_with_len 0) (sym next))))
