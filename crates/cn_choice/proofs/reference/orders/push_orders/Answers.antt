use Rattle.std.proofs.Common.{rules, arith, ◌≡◌, ◌++◌, ◌∷◌, ◌∙◌, ap, [], map, sym, refl, append-nil, length, vec_len}
use Rattle.std.proofs.lemmas.List.{map-append}
use Rattle.itertools.specs.Pool.{permutation_left}
use Rattle.cn_choice.specs.Orders.{lists_of}
use Rattle.cn_choice.proofs.ListLemmas.Permutations.{all_ways, next_taken, pushed, range_items}
use Rattle.cn_choice.proofs.reference.orders.push_orders.Goals as goal

pub loop-order-init : goal.loop-order-init
loop-order-init c =
    let same = c.into_iter-order-iterator.ensures.into_iter_gives in
    let pool = ap (λ it. it.pool.items) same ∙ range_items c.args.n _ _ refl c.in_ok-order-items.ensures.pool in (
      search rules,
      search rules,
      pool,
      (
        [],
        sym (append-nil _),
        all_ways c.args.n c.args.k (vec_len c.in_ok-order-items.order-items.pool) _ _ pool
            (c.in_ok-order-items.order-items.pool.ok.0 ∙ ap (λ it. length it.pool.items) (sym same)) (ap permutation_left same ∙ c.in_ok-order-items.ensures.places),
      ),
    )

pub list_of-requires : goal.list_of-requires
list_of-requires c =
    let i = c.loop-order.invariant in
    let step = rw c.in_ok-order.was at c.in-Some.ensures.steps.1 in
    let next = next_taken c.args.n c.args.k _ _ i.3.0 _ _ step.0 (λ x y. y ≡ x) (λ x y h. h) i.2 step.1 step.2 i.3.2 in
    omega (arith, next.long, c.requires.few, c.requires.within, ap length c.as_slice.ensures.value)

pub loop-order-preserved : goal.loop-order-preserved
loop-order-preserved c =
    let i = c.loop-order.invariant in
    let step = rw c.in_ok-order.was at c.in-Some.ensures.steps.1 in
    let next = next_taken c.args.n c.args.k _ _ i.3.0 _ _ step.0 (λ x y. y ≡ x) (λ x y h. h) i.2 step.1 step.2 i.3.2 in (
      search rules,
      search rules,
      sym c.in-Some.ensures.steps.0 ∙ i.2,
      (
        i.3.0 ++ c.in_ok-order.order.items ∷ [],
        ap (map (λ o. o.items)) c.in_ok-push.ensures.items
            ∙ (map-append (λ o. o.items) c.loop-order.orders.items (c.list_of.result ∷ []) ∙ pushed (lists_of c.loop-order.orders)
            (lists_of c.args.orders.now) i.3.0 c.in_ok-order.order.items c.list_of.result.items
            i.3.1 (c.list_of.ensures ∙ c.as_slice.ensures.value)),
        next.rest,
      ),
    )
