use Rattle.std.proofs.Common.{◌∙◌, ℕ, List, length, ap, subst, Contains, ◌↔◌}
use Rattle.cn_choice.specs.Orders.{IsOrder, lists_of}
use Rattle.cn_choice.proofs.WitnessLemmas.Witnesses.{IsWitness-from_none, an_order, not_a_witness, splits_iff}
use Rattle.cn_choice.proofs.reference.witness.raw_splits.Goals as goal

pub any_collide-requires-clause-orders_known : goal.any_collide-requires-clause-orders_known
any_collide-requires-clause-orders_known c k d l i e m =
    let n = c.len.ensures.value ∙ ap (λ a. length a.operations) c.choice.view_is in
    let every = subst (λ (n : ℕ). (order : List ℕ) → Contains (lists_of c.in_ok-orders.orders) order ↔ IsOrder n order) n c.in_ok-orders.ensures.every in
    let here = rw c.as_slice.ensures.value at l in
    rw c.as_slice.ensures.value ((an_order c.args.table.now c.args.choice.now c.in_ok-orders.orders.items every k d here).known i e (rw c.as_slice.ensures.value at m))

pub returns : goal.returns
returns c =
    let n = c.len.ensures.value ∙ ap (λ a. length a.operations) c.choice.view_is in
    let every = subst (λ (n : ℕ). (order : List ℕ) → Contains (lists_of c.in_ok-orders.orders) order ↔ IsOrder n order) n c.in_ok-orders.ensures.every in
    let found = rw c.as_slice.ensures.value at c.any_collide.ensures in
    splits_iff c.any_collide.result _ _ found
    (IsWitness-from_none c.args.table.now c.args.choice.now c.in_ok-orders.orders.items every)
    (not_a_witness c.args.table.now c.args.choice.now c.in_ok-orders.orders.items every)
