-- A type is n-discerning if another one is so of which each operation does the same as some operation of
-- it.
use Rattle.std.proofs.Common.{◌≡◌, ℕ, zero, suc, ◌<◌, List, [], ◌∷◌, length, map, refl, sym, ap, ◌∙◌, subst, arith, All}
use Rattle.std.specs.Prelude.{slice_index, option_map}
use Rattle.std.specs.List.{AllByRecursion}
use Rattle.std.proofs.lemmas.List.{length-map}
use Rattle.std.proofs.lemmas.List.Elements.{All-from_recursion, recursion_from_All}
use Rattle.cn_table.specs.Run.{responses_along, state_after}
use Rattle.cn_table.specs.TypeTable.{TypeTable, transition}
use Rattle.cn_choice.specs.Discerning.{IsDiscerning}
use Rattle.cn_choice.specs.Orders.{IsOrder}
use Rattle.cn_choice.specs.OutcomeSets.{InOutcomeSet, operations_of, pair_of, response_of}
use Rattle.cn_choice.specs.RawChoices.{RawChoice}
use Rattle.cn_choice.specs.declared.team.Team.{Team}
use Rattle.cn_choice.specs.declared.team.Team.TheVariants.{A, B}
use Rattle.cn_choice.proofs.ChoiceLemmas.Embeddings.{each_map}
use Rattle.cn_choice.proofs.OrderLemmas.Walks.{pair_of-response_of}

-- each operation of t does what an operation of u does, under the number that f gives: in the states of
-- some kind, out of which no operation of t leads, and of which those of the type are
pub record Carries (K : ℕ → Type 0) (f : ℕ → ℕ) (t u : TypeTable) : Type 0 where
  pub states : length t.states ≡ length u.states
  pub inside : (o : ℕ) → o < length t.operations → f o < length u.operations
  pub known : (q : ℕ) → q < length t.states → K q
  pub onward : (o q : ℕ) → o < length t.operations → K q → K (transition t o q).1
  pub step : (o q : ℕ) → o < length t.operations → K q → transition t o q ≡ transition u (f o) q

at_place : (f : ℕ → ℕ) (xs : List ℕ) (p : ℕ) → p < length xs → slice_index (map f xs) p ≡ f (slice_index xs p)
at_place f [] p l = absurd (omega (arith, l))
at_place f (x ∷ xs) zero l = refl
at_place f (x ∷ xs) (suc p) l = at_place f xs p (omega (arith, l))

module _ (K : ℕ → Type 0) (f : ℕ → ℕ) (t u : TypeTable) (k : Carries K f t u) where
  same_responses : (q : ℕ) (os : List ℕ) → K q → AllByRecursion (λ o. o < length t.operations) os → responses_along t q os ≡ responses_along u q (map f os)
  same_responses q [] kq a = refl
  same_responses q (o ∷ os) kq a =
      ap (λ (rs : List ℕ). (transition t o q).0 ∷ rs) (same_responses (transition t o q).1 os (k.onward o q a.0 kq) a.1)
      ∙ ap (λ (p : ℕ × ℕ). p.0 ∷ responses_along u p.1 (map f os)) (k.step o q a.0 kq)

  same_state : (q : ℕ) (os : List ℕ) → K q → AllByRecursion (λ o. o < length t.operations) os → state_after t q os ≡ state_after u q (map f os)
  same_state q [] kq a = refl
  same_state q (o ∷ os) kq a =
      same_state (transition t o q).1 os (k.onward o q a.0 kq) a.1
      ∙ ap (λ (p : ℕ × ℕ). state_after u p.1 (map f os)) (k.step o q a.0 kq)

  -- the choice with the operations of u
  abbrev carried : RawChoice → RawChoice
  carried c = record { state = c.state; operations = map f c.operations; marks = c.marks }

  operations_carried : (c : RawChoice) (order : List ℕ) → AllByRecursion (λ p. p < length c.operations) order → operations_of (carried c) order ≡ map f (operations_of c order)
  operations_carried c [] a = refl
  operations_carried c (p ∷ ps) a = rw (at_place f c.operations p a.0, operations_carried c ps a.1) refl

  operations_known : (c : RawChoice) (order : List ℕ) → All (λ o. o < length t.operations) c.operations → AllByRecursion (λ p. p < length c.operations) order
      → AllByRecursion (λ o. o < length t.operations) (operations_of c order)
  operations_known c [] known a = tt
  operations_known c (p ∷ ps) known a = (known p 0 a.0, operations_known c ps known a.1)

  both : (j : ℕ) (order rs xs : List ℕ) (s q : ℕ) → rs ≡ xs → s ≡ q → option_map (λ r. let pair : ℕ × ℕ = (r, s) in pair) (response_of j order rs)
      ≡ option_map (λ r. let pair : ℕ × ℕ = (r, q) in pair) (response_of j order xs)
  both j order rs xs s q e g = rw (e, g) refl

  pair_carried : (c : RawChoice) (order : List ℕ) (j : ℕ) → K c.state → All (λ o. o < length t.operations) c.operations → AllByRecursion (λ p. p < length c.operations) order
      → pair_of t c order j ≡ pair_of u (carried c) order j
  pair_carried c order j kq known a =
      let os : List ℕ = operations_of c order in
      let own = operations_known c order known a in
      let same : map f os ≡ operations_of (carried c) order = sym (operations_carried c order a) in
      pair_of-response_of t c order j
      ∙ (both j order (responses_along t c.state os) (responses_along u c.state (operations_of (carried c) order)) (state_after t c.state os) (state_after u c.state (operations_of (carried c) order))
      (same_responses c.state os kq own ∙ ap (responses_along u c.state) same) (same_state c.state os kq own ∙ ap (state_after u c.state) same)
      ∙ sym (pair_of-response_of u (carried c) order j))

  outcome_back : (c : RawChoice) (team : Team) (j : ℕ) (pair : ℕ × ℕ) → K c.state → All (λ o. o < length t.operations) c.operations
      → InOutcomeSet u (carried c) team j pair → InOutcomeSet t c team j pair
  outcome_back c team j pair kq known o =
      let is : IsOrder (length c.operations) o.0 = subst (λ (n : ℕ). IsOrder n o.0) (length-map c.operations f) o.1 in
      (o.0, is, o.2, pair_carried c o.0 j kq known (recursion_from_All (λ p. p < length c.operations) o.0 is.known) ∙ o.3)

  pub discerning_carried : (n : ℕ) → IsDiscerning t n → IsDiscerning u n
  discerning_carried n (c, is, w) = (
    carried c,
    record {
      state_known = omega (arith, is.state_known, k.states);
      operations_known = All-from_recursion (λ o. o < length u.operations) (map f c.operations)
          (each_map f (length t.operations) (length u.operations) k.inside c.operations (recursion_from_All (λ o. o < length t.operations) c.operations is.operations_known));
      one_operation_each = length-map c.operations f ∙ is.one_operation_each;
      one_team_each = is.one_team_each;
      someone_in_a = is.someone_in_a;
      someone_in_b = is.someone_in_b;
    },
    λ j pair a b. let kq = k.known c.state is.state_known in
        w j pair (outcome_back c A j pair kq is.operations_known a) (outcome_back c B j pair kq is.operations_known b),
  )
