-- Loads of teams together, and which of two loads is no more.
use Rattle.std.proofs.Common.{ℕ, ◌≡◌, ◌+◌, ◌<◌, ◌≤◌, ◌⊎◌, Option, Some, None, refl, sym, ap, arith, inl, inr}
use Rattle.cn_tree_costs.specs.Least.{IsAtMost, Load, plus}

abbrev pub nodes_or : Option Load → ℕ
nodes_or None = 0
nodes_or (Some x) = x.nodes

abbrev pub sum_or : Option Load → ℕ
sum_or None = 0
sum_or (Some x) = x.sum

pub record AreParts (a b : Option Load) (z : Load) : Type 0 where
  pub x : Load
  pub y : Load
  pub first : a ≡ Some x
  pub rest : b ≡ Some y
  pub nodes_are : z.nodes ≡ x.nodes + y.nodes
  pub sum_is : z.sum ≡ x.sum + y.sum

pub plus_some : (a b : Option Load) (z : Load) → plus a b ≡ Some z → AreParts a b z
plus_some None b z e = absurd cc
plus_some (Some x) None z e = absurd cc
plus_some (Some x) (Some y) z e = record { x = x; y = y; first = refl; rest = refl; nodes_are = sym (ap nodes_or e); sum_is = sym (ap sum_or e) }

pub at_most_trans : (x y z : Load) → IsAtMost x y → IsAtMost y z → IsAtMost x z
at_most_trans x y z (inl h) (inl k) = inl (omega (arith, h, k))
at_most_trans x y z (inl h) (inr k) = inl (let a = k.0 in omega (arith, h, a))
at_most_trans x y z (inr h) (inl k) = inl (let a = h.0 in omega (arith, k, a))
at_most_trans x y z (inr h) (inr k) = inr ((let a = h.0 in let b = k.0 in omega (arith, a, b)), (let a = h.1 in let b = k.1 in omega (arith, a, b)))
