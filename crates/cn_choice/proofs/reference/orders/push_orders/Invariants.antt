use Rattle.std.proofs.Common.{◌≡◌, ◌++◌, ℕ, List, map}
use Rattle.std.specs.List.{range_with_len}
use Rattle.itertools.specs.Pool.{unranked, permutation_left}
use Rattle.cn_choice.specs.Arrangements.{arrangements}
use Rattle.cn_choice.specs.Orders.{lists_of}
use Rattle.cn_choice.proofs.reference.orders.push_orders.Given as goal

-- the lists taken and those left are all lists
abbrev pub invariant-loop-order : goal.invariant-loop-order
invariant-loop-order l =
    (goal.iterator-loop-order).can_next l.order-iterator ×
    (goal.iterator-loop-order).is_finite l.order-iterator ×
    (l.order-iterator.pool.items ≡ range_with_len 0 l.n) ×
    ((taken : List (List ℕ)) × (lists_of l.orders ≡ lists_of l.fn.orders ++ taken)
    × (taken ++ map (unranked (range_with_len 0 l.n)) (permutation_left l.order-iterator) ≡ arrangements l.k (range_with_len 0 l.n)))
