-- The less one of two loads.
use Rattle.std.proofs.Common.{◌≡◌, ◌⊎◌, ◌↔◌, inl, inr, refl, sym, ap, ◌∙◌, arith, Bool, false, true≢false, Option, Some, IsTrue}
use Rattle.std.proofs.lemmas.Bool.{cases_lt}
use Rattle.cn_tree_costs.specs.Least as least
use Rattle.cn_tree_costs.specs.Least.{IsAtMost}
use Rattle.cn_shortest.specs.Loads.{IsLessOf, IsNoMore, load_of}
use Rattle.cn_shortest.specs.declared.loads.Load.{Load}
use Rattle.cn_tree_costs.proofs.Loads.{at_most_trans, nodes_or, sum_or}

abbrev pub plain : Load → least.Load
plain x = record { nodes = x.nodes; sum = x.sum }

pub at_most_self : (x : least.Load) → IsAtMost x x
at_most_self x = inr (refl, omega arith)

pub at_most_or : (x y : least.Load) → IsAtMost x y ⊎ IsAtMost y x
at_most_or x y = elim (cases_lt x.nodes y.nodes) [
  | inl l ↦ inl (inl l)
  | inr l ↦ elim (cases_lt y.nodes x.nodes) [
    | inl m ↦ inr (inl m)
    | inr m ↦ elim (cases_lt y.sum x.sum) [
      | inl u ↦ inr (inr (omega (arith, l, m), omega (arith, u)))
      | inr u ↦ inl (inr (omega (arith, l, m), u))
    ]
  ]
]

pub no_more : (x : Load) (y : Option Load) (b : Load) → y ≡ Some b → IsAtMost (plain x) (plain b) → IsNoMore (Some x) y
no_more x y b is h z e =
    let same : Some (plain b) ≡ Some z = sym (ap load_of is) ∙ e in
    let n : b.nodes ≡ z.nodes = ap nodes_or same in
    let s : b.sum ≡ z.sum = ap sum_or same in
    (plain x, refl, at_most_trans (plain x) (plain b) z h (inr (n, omega (arith, s))))

pub first_less : (x y : Option Load) (a b : Load) → x ≡ Some a → y ≡ Some b → IsAtMost (plain a) (plain b) → IsLessOf x y (Some a)
first_less x y a b e f h = record { either = inl (sym e); first = no_more a x a e (at_most_self (plain a)); second = no_more a y b f h }

pub second_less : (x y : Option Load) (a b : Load) → x ≡ Some a → y ≡ Some b → (r : Bool) → IsTrue r ↔ IsAtMost (plain a) (plain b) → r ≡ false → IsLessOf x y (Some b)
second_less x y a b e f r is wrong = record {
  either = inr (sym f);
  first = no_more b x a e (elim (at_most_or (plain a) (plain b)) [ inl h ↦ absurd (true≢false (sym (is.1 h) ∙ wrong)) | inr h ↦ h ]);
  second = no_more b y b f (at_most_self (plain b));
}
