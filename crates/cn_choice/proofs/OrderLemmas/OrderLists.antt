-- Lists of all orders of some of n processes.
use Rattle.std.proofs.Common.{◌≡◌, ℕ, List, [], ap, map, AllPairs, Contains, ◌↔◌, ◌∷◌, refl}
use Rattle.cn_choice.specs.OrdersLeft.{all_arrays, all_orders, as_array}
use Rattle.cn_choice.proofs.OrderLemmas.AllOrders.{listing_is}
use Rattle.arrayvec.specs.ArrayVec.{ArrayVec}
use Rattle.cn_choice.specs.Orders.{ComesBefore, IsOrder}

-- all orders of some of n processes, in the order in which they are listed
pub record AreAllOrders (n : ℕ) (orders : List (List ℕ)) : Type 0 where
  pub every : (order : List ℕ) → Contains orders order ↔ IsOrder n order
  pub in_order : AllPairs ComesBefore orders

-- the list has all orders
pub all_are_orders : (n : ℕ) → AreAllOrders n (map (λ (o : ArrayVec ℕ). o.items) (all_arrays n))
all_are_orders n = let r = listing_is n (map (λ (o : ArrayVec ℕ). o.items) (all_arrays n)) (back (all_orders n)) in record { every = r.0; in_order = r.1 }
  where
    back : (os : List (List ℕ)) → map (λ (o : ArrayVec ℕ). o.items) (map as_array os) ≡ os
    back [] = refl
    back (o ∷ os) = ap (λ rest. o ∷ rest) (back os)
