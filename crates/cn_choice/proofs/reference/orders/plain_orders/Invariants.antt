use Rattle.std.proofs.Common.{◌≡◌, ◌-◌}
use Rattle.std.specs.List.{range_with_len, flat_map}
use Rattle.cn_choice.specs.Arrangements.{arrangements}
use Rattle.cn_choice.specs.Orders.{lists_of}
use Rattle.cn_choice.proofs.reference.orders.plain_orders.Given as goal

-- the lists shorter than k are there
abbrev pub invariant-loop-k : goal.invariant-loop-k
invariant-loop-k l = lists_of l.orders ≡ flat_map (λ k. arrangements k (range_with_len 0 l.n)) (range_with_len 1 (l.k - 1))
