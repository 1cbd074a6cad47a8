-- The orders of some of the processes below n are in a list.
use Rattle.std.proofs.Common.{ℕ, zero, suc, ◌≡◌, ◌≢◌, ◌<◌, Bool, true, false, ◌&&◌, List, [], ◌∷◌, slice_get, Some, refl, sym, ap, ◌∙◌, arith, true≢false}
use Rattle.std.specs.List.{AllByRecursion, filter}
use Rattle.std.proofs.lemmas.List.Elements.{All-from_recursion}
use Rattle.cn_choice.specs.Orders.{IsOrder}
use Rattle.cn_choice.specs.OrdersLeft.{all_orders}
use Rattle.cn_choice.proofs.ListLemmas.Arrangements.{Differ}
use Rattle.cn_choice.proofs.ListLemmas.Filters.{kept, was_in}
use Rattle.cn_choice.proofs.ListLemmas.Members.{IsIn, AllPairs-from_Pairs, each_from, place_of}
use Rattle.cn_choice.proofs.OrderLemmas.AllOrders.{differ_from, distinct_from, listed, to_listed}
use Rattle.cn_meetings.specs.Witness.{Has, IsOrderOf}

pub order_tail : (processes : ℕ → Bool) (p : ℕ) (order : List ℕ) → IsOrderOf processes (p ∷ order) → IsOrderOf processes order
order_tail processes p order is = record {
  distinct = λ i j d l u. is.distinct (suc i) (suc j) d (omega (arith, l)) (omega (arith, u));
  members = λ k q e. is.members (suc k) q e;
}

pub order_apart : (processes : ℕ → Bool) (p : ℕ) (order : List ℕ) → IsOrderOf processes (p ∷ order) → (q : ℕ) → IsIn q order → p ≢ q
order_apart processes p order is q i =
    let at = place_of q order 0 i in
    let l = at.1 in
    λ e. is.distinct 0 (suc at.0) 0 (omega arith) (omega arith) (e ∙ sym at.2)

differ : (processes : ℕ → Bool) (order : List ℕ) → IsOrderOf processes order → Differ order
differ processes [] is = tt
differ processes (p ∷ order) is =
    (each_from (λ q. p ≢ q) order (order_apart processes p order is), differ processes order (order_tail processes p order is))

pub below : (processes : ℕ → Bool) (n : ℕ) → ((p : ℕ) → Has processes p → p < n) → (order : List ℕ) → IsOrderOf processes order → AllByRecursion (λ p. p < n) order
below processes n few [] is = tt
below processes n few (p ∷ order) is = (few p (is.members 0 p refl), below processes n few order (order_tail processes p order is))

abbrev pub are_all : (ℕ → Bool) → List ℕ → Bool
are_all f [] = true
are_all f (p ∷ order) = f p && are_all f order

all_true : (processes : ℕ → Bool) (order : List ℕ) → IsOrderOf processes order → are_all processes order ≡ true
all_true processes [] is = refl
all_true processes (p ∷ order) is = rw (is.members 0 p refl) (all_true processes order (order_tail processes p order is))

has_each : (f : ℕ → Bool) (order : List ℕ) → are_all f order ≡ true → (k p : ℕ) → slice_get order k ≡ Some p → f p ≡ true
has_each f [] e k p h = absurd cc
has_each f (q ∷ order) e k p h = go (f q) refl e k h (λ rest i. has_each f order rest i p)
  where
    go : (b : Bool) → f q ≡ b → (b && are_all f order) ≡ true → (k : ℕ) → slice_get (q ∷ order) k ≡ Some p
        → (are_all f order ≡ true → (i : ℕ) → slice_get order i ≡ Some p → f p ≡ true) → f p ≡ true
    go false is e k h on = absurd (true≢false (sym e))
    go true is e zero h on = let same : q ≡ p = cc in ap f (sym same) ∙ is
    go true is e (suc k) h on = on e k h

-- the orders of the processes
abbrev pub orders_of : (ℕ → Bool) → ℕ → List (List ℕ)
orders_of processes n = filter (are_all processes) (all_orders n)

pub order_in : (processes : ℕ → Bool) (n : ℕ) → ((p : ℕ) → Has processes p → p < n) → (order : List ℕ) → IsOrderOf processes order → order ≢ [] → IsIn order (orders_of processes n)
order_in processes n few order is some =
    kept (are_all processes) order (all_orders n)
    (to_listed n order (record {
      someone = some;
      known = All-from_recursion (λ p. p < n) order (below processes n few order is);
      distinct = distinct_from order (differ processes order is);
    }))
    (all_true processes order is)

pub in_order : (processes : ℕ → Bool) (n : ℕ) (order : List ℕ) → IsIn order (orders_of processes n) → IsOrderOf processes order
in_order processes n order i =
    let was = was_in (are_all processes) order (all_orders n) i in
    let is : IsOrder n order = listed n order was.0 in
    record {
      distinct = AllPairs-from_Pairs (λ x y. x ≢ y) order (differ_from order is.distinct);
      members = has_each processes order was.1;
    }
