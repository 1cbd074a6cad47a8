-- Responses that tell for good: a sticky bit whose writes answer the value that stands.
use Rattle.std.proofs.Common.{◌≡◌, ℕ, zero, suc, ◌<◌, [], ◌∷◌, ◌++◌, replicate, refl, sym, ◌∙◌}
use Rattle.std.proofs.Common.{ap, arith, inl, inr}
use Rattle.cn_table.specs.Run.{state_after}
use Rattle.cn_table.specs.TypeTable.{IsClosed, TypeTable, transition}
use Rattle.cn_unread.specs.Lasting.{LastsByResponses, ManyBefore, SingleBefore}

-- states: nothing, or the first or the second value, stands. Operation 0 writes the first value where
-- nothing stands, operation 1 the second one; both respond which value stands now.
abbrev sticky : TypeTable
sticky = record {
  name = [];
  states = [] ∷ [] ∷ [] ∷ [];
  responses = [] ∷ [] ∷ [];
  operations =
      record { name = []; response = 0 ∷ 0 ∷ 1 ∷ []; next = 1 ∷ 1 ∷ 2 ∷ [] }
      ∷ record { name = []; response = 1 ∷ 0 ∷ 1 ∷ []; next = 2 ∷ 1 ∷ 2 ∷ [] } ∷ [];
}

-- what stands stays
first_stays : (k : ℕ) → state_after sticky 1 (replicate k 1) ≡ 1
first_stays zero = refl
first_stays (suc k) = first_stays k

second_stays : (k : ℕ) → state_after sticky 2 (replicate k 1) ≡ 2
second_stays zero = refl
second_stays (suc k) = second_stays k

second_stays_longer : (i k : ℕ) → state_after sticky 2 (replicate i 1 ++ 0 ∷ replicate k 1) ≡ 2
second_stays_longer zero k = second_stays k
second_stays_longer (suc i) k = second_stays_longer i k

abbrev answer : ℕ → ℕ → ℕ
answer o s = (transition sticky o s).0

single_first : (r : ℕ) → SingleBefore sticky 0 1 0 r → r ≡ 0
single_first r (k, e) = sym e ∙ ap (answer 1) (first_stays k)

many_first : (r : ℕ) → ManyBefore sticky 0 1 0 r → r ≡ 1
many_first r (inl (zero, e)) = sym e
many_first r (inl (suc k, e)) = sym e ∙ ap (answer 1) (second_stays k)
many_first r (inr (i, k, e)) = sym e ∙ ap (answer 1) (second_stays_longer i k)

lasts : LastsByResponses sticky 0 1 0
lasts = record {
  start_known = omega arith;
  many_known = omega arith;
  single_known = omega arith;
  single_apart = λ k e. absurd (omega (arith, sym (ap (answer 0) (second_stays k)) ∙ e));
  many_apart = λ r s m. absurd (omega (arith, single_first r s, many_first r m));
}

is_closed : IsClosed sticky
is_closed o s lo ls = by_operation o s lo ls
  where
    far : {X : Type 0} (i : ℕ) → suc (suc (suc i)) < 3 → X
    far i l = absurd (omega (arith, l))

    by_operation : (o s : ℕ) → o < 2 → s < 3 → (transition sticky o s).1 < 3
    by_operation zero zero lo ls = omega arith
    by_operation zero (suc zero) lo ls = omega arith
    by_operation zero (suc (suc zero)) lo ls = omega arith
    by_operation zero (suc (suc (suc s))) lo ls = far s ls
    by_operation (suc zero) zero lo ls = omega arith
    by_operation (suc zero) (suc zero) lo ls = omega arith
    by_operation (suc zero) (suc (suc zero)) lo ls = omega arith
    by_operation (suc zero) (suc (suc (suc s))) lo ls = far s ls
    by_operation (suc (suc o)) s lo ls = absurd (omega (arith, lo))

pub some_lasts : (t : TypeTable) × (start : ℕ) × (many : ℕ) × (single : ℕ) × IsClosed t
    × LastsByResponses t start many single
some_lasts = (sticky, 0, 1, 0, is_closed, lasts)
