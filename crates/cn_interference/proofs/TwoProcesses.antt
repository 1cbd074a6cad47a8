-- Two operations of which each tells something of the other are a witness for two processes.
use Rattle.std.proofs.Common.{◌≡◌, ◌⊎◌, ℕ, zero, suc, ◌-◌, ◌<◌, inl, inr, List, [], ◌∷◌, length, Some, None, refl, sym, ap, ◌∙◌, subst, arith}
use Rattle.std.specs.Prelude.{slice_get}
use Rattle.std.specs.List.{AllByRecursion}
use Rattle.std.specs.Option.{option_map}
use Rattle.std.proofs.lemmas.List.Elements.{All-from_recursion, recursion_from_All}
use Rattle.cn_table.specs.Run.{responses_along, state_after}
use Rattle.cn_table.specs.TypeTable.{TypeTable}
use Rattle.cn_choice.specs.declared.team.Team.TheVariants.{A, B}
use Rattle.cn_choice.specs.Discerning.{IsDiscerning, IsWitness}
use Rattle.cn_choice.specs.Orders.{IsOrder}
use Rattle.cn_choice.specs.OutcomeSets.{BeginsIn, InOutcomeSet, operations_of, pair_of, response_of}
use Rattle.cn_choice.specs.RawChoices.{IsRawChoice, RawChoice}
use Rattle.cn_choice.proofs.ListLemmas.Arrangements.{Differ}
use Rattle.cn_choice.proofs.OrderLemmas.AllOrders.{differ_from}
use Rattle.cn_choice.proofs.OrderLemmas.Walks.{pair_of-response_of, pair_takes_part}
use Rattle.cn_interference.proofs.ThirdProcess.{same_or_not}
use Rattle.cn_interference.specs.Interference.{AllHide, TellsNothing, answer, next}

tells_or_not : (t : TypeTable) (f g q : ℕ) → TellsNothing t f g q ⊎ (¬ TellsNothing t f g q)
tells_or_not t f g q = elim (same_or_not (answer t f (next t g q)) (answer t f q)) [
  | inr d ↦ inr (λ h. d h.0)
  | inl e ↦ elim (same_or_not (next t g (next t f q)) (next t f (next t g q))) [
    | inl c ↦ inl (e, inl c)
    | inr d ↦ elim (same_or_not (next t f (next t g q)) (next t f q)) [
      | inl w ↦ inl (e, inr w)
      | inr n ↦ inr (λ h. elim h.1 [ inl c ↦ d c | inr w ↦ n w ])
    ]
  ]
]

-- an order of two processes, by the first of them
orders : (order : List ℕ) (first : ℕ) → AllByRecursion (λ p. p < 2) order → Differ order → slice_get order 0 ≡ Some first
    → (order ≡ first ∷ []) ⊎ (order ≡ first ∷ (1 - first) ∷ [])
orders [] first known differ e = absurd (cc e)
orders (x ∷ []) first known differ e = let same : x ≡ first = cc e in inl (ap (λ (y : ℕ). y ∷ []) same)
orders (x ∷ y ∷ []) first known differ e =
    let same : x ≡ first = cc e in
    let other : y ≡ 1 - x = omega (arith, known.0, known.1.0, differ.0.0) in
    inr (rw (other, same) refl)
orders (x ∷ y ∷ z ∷ rest) first known differ e =
    absurd (omega (arith, known.0, known.1.0, known.1.1.0, differ.0.0, differ.0.1.0, differ.1.0.0))

first_a : (first : ℕ) → slice_get (A ∷ B ∷ []) first ≡ Some A → first ≡ 0
first_a zero e = refl
first_a (suc zero) e = absurd (cc e)
first_a (suc (suc k)) e = absurd (cc e)

first_b : (first : ℕ) → slice_get (A ∷ B ∷ []) first ≡ Some B → first ≡ 1
first_b zero e = absurd (cc e)
first_b (suc zero) e = refl
first_b (suc (suc k)) e = absurd (cc e)

same_pair : (x y p : ℕ × ℕ) → Some x ≡ Some p → Some y ≡ Some p → x ≡ y
same_pair x y p e h = cc (e, h)

module _ (t : TypeTable) (f g q : ℕ) where
  abbrev c : RawChoice
  c = record { state = q; operations = f ∷ g ∷ []; marks = A ∷ B ∷ [] }

  is_choice : f < length t.operations → g < length t.operations → q < length t.states → IsRawChoice t 2 c
  is_choice fs gs qs = record {
    state_known = qs;
    operations_known = All-from_recursion (λ o. o < length t.operations) (f ∷ g ∷ []) (fs, (gs, tt));
    one_operation_each = refl;
    one_team_each = refl;
    someone_in_a = (0, omega arith, refl);
    someone_in_b = (1, omega arith, refl);
  }

  order_a : (order : List ℕ) → IsOrder 2 order → BeginsIn c A order → (order ≡ 0 ∷ []) ⊎ (order ≡ 0 ∷ 1 ∷ [])
  order_a order is b =
      subst (λ (k : ℕ). (order ≡ k ∷ []) ⊎ (order ≡ k ∷ (1 - k) ∷ [])) (first_a b.0 b.2)
      (orders order b.0 (recursion_from_All (λ p. p < 2) order is.known) (differ_from order is.distinct) b.1)

  order_b : (order : List ℕ) → IsOrder 2 order → BeginsIn c B order → (order ≡ 1 ∷ []) ⊎ (order ≡ 1 ∷ 0 ∷ [])
  order_b order is b =
      subst (λ (k : ℕ). (order ≡ k ∷ []) ⊎ (order ≡ k ∷ (1 - k) ∷ [])) (first_b b.0 b.2)
      (orders order b.0 (recursion_from_All (λ p. p < 2) order is.known) (differ_from order is.distinct) b.1)

  -- what a process sees in an order that is this one
  seen : (order this : List ℕ) (j : ℕ) (pair : ℕ × ℕ) → order ≡ this → pair_of t c order j ≡ Some pair
      → option_map (λ r. (r, state_after t q (operations_of c this))) (response_of j this (responses_along t q (operations_of c this))) ≡ Some pair
  seen order this j pair e h = sym (pair_of-response_of t c this j) ∙ subst (λ (o : List ℕ). pair_of t c o j ≡ Some pair) e h

  nothing_seen : (pair : ℕ × ℕ) → None ≡ Some pair → ⊥
  nothing_seen pair e = cc e

  -- process 0 sees the same after either team
  first_meets : (alpha beta : List ℕ) (pair : ℕ × ℕ) → (alpha ≡ 0 ∷ []) ⊎ (alpha ≡ 0 ∷ 1 ∷ []) → (beta ≡ 1 ∷ []) ⊎ (beta ≡ 1 ∷ 0 ∷ [])
      → pair_of t c alpha 0 ≡ Some pair → pair_of t c beta 0 ≡ Some pair → TellsNothing t f g q
  first_meets alpha beta pair a b h k = elim b [
    | inl d ↦ absurd (nothing_seen pair (seen beta (1 ∷ []) 0 pair d k))
    | inr d ↦ elim a [
      | inl e ↦ (let s = same_pair (answer t f q, next t f q) (answer t f (next t g q), next t f (next t g q)) pair
          (seen alpha (0 ∷ []) 0 pair e h) (seen beta (1 ∷ 0 ∷ []) 0 pair d k) in
          (sym (ap (λ (p : ℕ × ℕ). p.0) s), inr (sym (ap (λ (p : ℕ × ℕ). p.1) s))))
      | inr e ↦ (let s = same_pair (answer t f q, next t g (next t f q)) (answer t f (next t g q), next t f (next t g q)) pair
          (seen alpha (0 ∷ 1 ∷ []) 0 pair e h) (seen beta (1 ∷ 0 ∷ []) 0 pair d k) in
          (sym (ap (λ (p : ℕ × ℕ). p.0) s), inl (ap (λ (p : ℕ × ℕ). p.1) s)))
    ]
  ]

  -- process 1 does
  second_meets : (alpha beta : List ℕ) (pair : ℕ × ℕ) → (alpha ≡ 0 ∷ []) ⊎ (alpha ≡ 0 ∷ 1 ∷ []) → (beta ≡ 1 ∷ []) ⊎ (beta ≡ 1 ∷ 0 ∷ [])
      → pair_of t c alpha 1 ≡ Some pair → pair_of t c beta 1 ≡ Some pair → TellsNothing t g f q
  second_meets alpha beta pair a b h k = elim a [
    | inl e ↦ absurd (nothing_seen pair (seen alpha (0 ∷ []) 1 pair e h))
    | inr e ↦ elim b [
      | inl d ↦ (let s = same_pair (answer t g (next t f q), next t g (next t f q)) (answer t g q, next t g q) pair
          (seen alpha (0 ∷ 1 ∷ []) 1 pair e h) (seen beta (1 ∷ []) 1 pair d k) in
          (ap (λ (p : ℕ × ℕ). p.0) s, inr (ap (λ (p : ℕ × ℕ). p.1) s)))
      | inr d ↦ (let s = same_pair (answer t g (next t f q), next t g (next t f q)) (answer t g q, next t f (next t g q)) pair
          (seen alpha (0 ∷ 1 ∷ []) 1 pair e h) (seen beta (1 ∷ 0 ∷ []) 1 pair d k) in
          (ap (λ (p : ℕ × ℕ). p.0) s, inl (sym (ap (λ (p : ℕ × ℕ). p.1) s))))
    ]
  ]

  witness : ¬ TellsNothing t f g q → ¬ TellsNothing t g f q → IsWitness t c
  witness none other j pair a b =
      let known : j < 2 = pair_takes_part t c 2 a.0 j pair a.1.known a.3 in
      by_process j known a b
    where
      by_process : (j : ℕ) → j < 2 → InOutcomeSet t c A j pair → InOutcomeSet t c B j pair → ⊥
      by_process zero l a b = none (first_meets a.0 b.0 pair (order_a a.0 a.1 a.2) (order_b b.0 b.1 b.2) a.3 b.3)
      by_process (suc zero) l a b = other (second_meets a.0 b.0 pair (order_a a.0 a.1 a.2) (order_b b.0 b.1 b.2) a.3 b.3)
      by_process (suc (suc k)) l a b = absurd (omega (arith, l))

pub all_hide_if_none : (t : TypeTable) → ¬ IsDiscerning t 2 → AllHide t
all_hide_if_none t none f fs g gs q qs = elim (tells_or_not t f g q) [
  | inl h ↦ inl h
  | inr n ↦ elim (tells_or_not t g f q) [
    | inl h ↦ inr h
    | inr m ↦ absurd (none (c t f g q, is_choice t f g q fs gs qs, witness t f g q n m))
  ]
]
