-- A type has only one number.
use Rattle.std.proofs.Common.{◌≡◌, ◌+◌, inl, inr, true, refl, arith}
use Rattle.std.proofs.lemmas.Bool.{cases_order, eq-eqb}
use Rattle.cn_table.specs.TypeTable.{TypeTable}
use Rattle.cn_search.specs.Numbers.{HasNumber}
use Rattle.cn_search.specs.declared.exact.ConsensusNumber.{ConsensusNumber}
use Rattle.cn_search.specs.declared.exact.ConsensusNumber.TheVariants.{Finite, Infinite}
use Rattle.cn_pairs.specs.Smallest.{same_number}

pub one_number : (t : TypeTable) (a b : ConsensusNumber) → HasNumber t a → HasNumber t b → same_number a b ≡ true
one_number t (Finite m) (Finite n) h k = eq-eqb m n (elim (cases_order m n) [
  | inl e ↦ e
  | inr o ↦ elim o [
    | inl l ↦ absurd (h.3 n l (k.2 (omega (arith, h.0, l))))
    | inr l ↦ absurd (k.3 m l (h.2 (omega (arith, k.0, l))))
  ]
])
one_number t (Finite m) Infinite h k = absurd (h.3 (m + 1) (omega arith) (k (m + 1) (omega (arith, h.0))))
one_number t Infinite (Finite n) h k = absurd (k.3 (n + 1) (omega arith) (h (n + 1) (omega (arith, k.0))))
one_number t Infinite Infinite h k = refl
