-- What is told that a process can see is what is in the outcome sets.
use Rattle.std.proofs.Common.{◌≡◌, ℕ, ◌+◌, ◌<◌, ◌≤◌, ◌↔◌, List, [], ◌∷◌, length, length-append, refl, sym, ap, ◌∙◌, subst, arith, All, Contains}
use Rattle.std.proofs.Common.{Bool, true, false, cond, ◌==◌, true≢false, IsTrue, Option, Some, None}
use Rattle.std.specs.List.{flat_map, range_with_len}
use Rattle.std.proofs.lemmas.Bool.{and_from, and_parts, eqb-true, eq-eqb}
use Rattle.std.proofs.lemmas.List.Elements.{All-nil, All-cons}
use Rattle.std.proofs.lemmas.List.Folds.{Any-from_list_any, list_any_at}
use Rattle.cn_table.specs.TypeTable.{TypeTable}
use Rattle.cn_choice.specs.Canonical.{Choice, raw_choice_of}
use Rattle.cn_choice.specs.Orders.{IsOrder}
use Rattle.cn_choice.specs.OrdersLeft.{as_array}
use Rattle.cn_choice.specs.OutcomeSets.{BeginsIn, InOutcomeSet, pair_of}
use Rattle.cn_choice.specs.TeamOrders.{orders_of}
use Rattle.cn_choice.specs.declared.team.Team.{Team}
use Rattle.cn_outcomes.specs.Twins.{AreTwins}
use Rattle.cn_outcomes.proofs.Exchange.{twin_results}
use Rattle.cn_reasons.specs.Known.{IsKnownSight}
use Rattle.cn_reasons.specs.Sights.{is_pair, sees, sight, sight_if, sights, sights_if}
use Rattle.cn_reasons.specs.declared.sight.Sight.{Sight}
use Rattle.cn_reasons.proofs.Pieces.{All-pieces}

-- ---- one pair

is_pair-Some : (r q : ℕ) (seen : Option (ℕ × ℕ)) → is_pair r q seen ≡ true → seen ≡ Some (r, q)
is_pair-Some r q None h = absurd (true≢false (sym h))
is_pair-Some r q (Some pair) h =
    let parts = and_parts (pair.0 == r) (pair.1 == q) h in
    let first : pair.0 ≡ r = eqb-true pair.0 r parts.0 in
    let second : pair.1 ≡ q = eqb-true pair.1 q parts.1 in
    λ i. Some (first i, second i)

Some-is_pair : (r q : ℕ) → is_pair r q (Some (r, q)) ≡ true
Some-is_pair r q = and_from (r == r) (q == q) (eq-eqb r r refl) (eq-eqb q q refl)

-- ---- whether a process sees a pair

module _ (t : TypeTable) (c : Choice) (team : Team) (j : ℕ)
    (listed : (o : _) → Contains (orders_of c team j) o ↔ (IsOrder (length c.a + length c.b) o.items × BeginsIn (raw_choice_of c) team o.items × Contains o.items j))
    (in_order : (order : List ℕ) (pair : ℕ × ℕ) → pair_of t (raw_choice_of c) order j ≡ Some pair → Contains order j) where
  many : length c.a + length c.b ≡ length (raw_choice_of c).operations
  many = sym (length-append c.a c.b)

  -- it does where the pair is in the outcome set, and only there
  pub sees_exact : (r q : ℕ) → IsTrue (sees t c team j r q) ↔ InOutcomeSet t (raw_choice_of c) team j (r, q)
  unfolding sees
  sees_exact r q = (
    λ h.
        let found = Any-from_list_any _ (orders_of c team j) h in
        let facts = (listed found.1).0 (found.0, found.2, found.3) in
        (found.1.items, subst (λ (n : ℕ). IsOrder n found.1.items) many facts.0, facts.1, is_pair-Some r q (pair_of t (raw_choice_of c) found.1.items j) found.4),
    λ h.
        let here = (listed (as_array h.0)).1 (subst (λ (n : ℕ). IsOrder n h.0) (sym many) h.1, h.2, in_order h.0 (r, q) h.3) in
        list_any_at _ (orders_of c team j) here.0 (as_array h.0) here.1
        ((λ i. is_pair r q (pair_of t (raw_choice_of c) (here.2 i).items j)) ∙ (ap (is_pair r q) h.3 ∙ Some-is_pair r q)),
  )

-- ---- the sights are of responses and states of the type

module _ (t : TypeTable) (test : ℕ → ℕ → Bool) where
  kept_known : (r q : ℕ) → r < length t.responses → q < length t.states → All (IsKnownSight t) (sight_if test r q)
  kept_known r q low less = by_test (test r q)
    where
      by_test : (b : Bool) → All (IsKnownSight t) (cond {A = List Sight} b (sight r q ∷ []) [])
      by_test true = All-cons (IsKnownSight t) (sight r q) [] (record { response = low; state = less }) (All-nil (IsKnownSight t))
      by_test false = All-nil (IsKnownSight t)

  pub all_known : (n : ℕ) → n ≤ length t.responses → All (IsKnownSight t) (flat_map (sights_if test (length t.states)) (range_with_len 0 n))
  all_known n few =
      All-pieces (sights_if test (length t.states)) (IsKnownSight t) 0 n
      (λ r from low. All-pieces (sight_if test r) (IsKnownSight t) 0 (length t.states) (λ q from less. kept_known r q (omega (arith, low, few)) (omega (arith, less))))

-- ---- the sights so far

pub kept_here : (test : ℕ → ℕ → Bool) (r q : ℕ) → IsTrue (test r q) → sight_if test r q ≡ sight r q ∷ []
kept_here test r q h = ap (λ b. cond {A = List Sight} b (sight r q ∷ []) []) h

pub kept_not : (test : ℕ → ℕ → Bool) (r q : ℕ) → ¬ IsTrue (test r q) → sight_if test r q ≡ []
kept_not test r q none = by_test (test r q) none
  where
    by_test : (b : Bool) → ¬ IsTrue b → cond {A = List Sight} b (sight r q ∷ []) [] ≡ []
    by_test true n = absurd (n refl)
    by_test false n = refl

-- ---- twins see the same

same_test : (a b : Bool) → (IsTrue a → IsTrue b) → (IsTrue b → IsTrue a) → a ≡ b
same_test true true f g = refl
same_test true false f g = absurd (true≢false (sym (f refl)))
same_test false true f g = absurd (true≢false (sym (g refl)))
same_test false false f g = refl

module _ (t : TypeTable) (c : Choice) (k : ℕ) (twins : AreTwins (raw_choice_of c) k)
    (exact : (team : Team) (j r q : ℕ) → IsTrue (sees t c team j r q) ↔ InOutcomeSet t (raw_choice_of c) team j (r, q)) where
  each : (team : Team) (r q : ℕ) → sees t c team k r q ≡ sees t c team (k + 1) r q
  each team r q =
      let both = twin_results t (raw_choice_of c) k twins team (r, q) in
      same_test _ _ (λ h. (exact team (k + 1) r q).1 (both.0 ((exact team k r q).0 h))) (λ h. (exact team k r q).1 (both.1 ((exact team (k + 1) r q).0 h)))

  pub same_sights : (team : Team) → sights t c team k ≡ sights t c team (k + 1)
  same_sights team =
      ap (λ (test : ℕ → ℕ → Bool). flat_map (sights_if test (length t.states)) (range_with_len 0 (length t.responses))) (λ i r q. each team r q i)
