use Rattle.std.proofs.Common.{arith, ◌≡◌, ◌∙◌, ◌+◌, ◌-◌, ℕ, ap}
use Rattle.std.specs.List.{range_with_len, flat_map}
use Rattle.cn_choice.specs.Arrangements.{arrangements}
use Rattle.cn_choice.specs.Orders.{lists_of}
use Rattle.cn_choice.proofs.OrderLemmas.AllOrders.{listing_is, listing_more}
use Rattle.cn_choice.proofs.reference.orders.plain_orders.Goals as goal
use Rattle.cn_choice.proofs.reference.orders.plain_orders.Goals.{else-loop-k-test, then-loop-k-test+in_ok-push_orders+else-k-n}
use Rattle.cn_choice.specs.OrdersLeft.{all_orders}

pub loop-k-preserved : goal.loop-k-preserved
loop-k-preserved c =
    let same : c.loop-k.k + 1 - 1 ≡ c.loop-k.k = omega arith in
    rw (same, c.in_ok-push_orders.ensures, c.loop-k.invariant) (listing_more c.args.n c.loop-k.k c.loop-k.auto.k)

pub returns : goal.returns
returns c =
    let all : lists_of c.loop-k-test.orders ≡ all_orders c.args.n = elim c.loop-k-test.branch [
      | else-loop-k-test w ↦ absurd (omega (arith, c.loop-k.auto.k-end c.requires.some, w.loop-k-test.false))
      | then-loop-k-test+in_ok-push_orders+else-k-n w ↦ let last : c.loop-k.k ≡ c.args.n = omega arith in
          ap lists_of w.orders-is ∙ (w.in_ok-push_orders.ensures ∙ rw c.loop-k.invariant
          (listing_more c.args.n c.loop-k.k c.loop-k.auto.k ∙ ap (λ (j : ℕ). flat_map (λ k. arrangements k (range_with_len 0 c.args.n)) (range_with_len 1 j)) last))
    ] in
    let r = listing_is c.args.n (lists_of c.loop-k-test.orders) all in
    record { every = r.0; in_order = r.1 }
