-- The lists that begin in a team and contain a process, and their order.
use Rattle.std.proofs.Common.{◌≡◌, ℕ, zero, suc, ◌+◌, ◌<◌, ◌≤◌, ◌⊎◌, ◌↔◌, inl, inr, List, [], ◌∷◌, ◌++◌, length, map, replicate, refl, sym, ap, ◌∙◌, subst, arith, Bool, true, nat_eq, Some, All, AllPairs, Contains, true≢false}
use Rattle.std.specs.Prelude.{slice_get}
use Rattle.std.specs.List.{list_any}
use Rattle.std.proofs.lemmas.Bool.{and_parts, and_from, leb-true, le-leb, ltb-true, lt-ltb, eqb-true, eq-eqb, or_cases, or_left, or_right}
use Rattle.std.proofs.lemmas.List.Elements.{recursion_from_All}
use Rattle.arrayvec.specs.ArrayVec.{ArrayVec}
use Rattle.cn_choice.specs.declared.team.Team.{Team}
use Rattle.cn_choice.specs.declared.team.Team.TheVariants.{A, B}
use Rattle.cn_choice.specs.Canonical.{Choice, raw_choice_of}
use Rattle.cn_choice.specs.Orders.{ComesBefore, IsOrder}
use Rattle.cn_choice.specs.OrdersLeft.{all_arrays, all_orders, as_array}
use Rattle.cn_choice.proofs.OrderLemmas.OrderLists.{AreAllOrders}
use Rattle.cn_choice.specs.OutcomeSets.{BeginsIn}
use Rattle.cn_choice.specs.TeamOrders.{begins_within, is_taken, orders_of, team_from, team_to}
use Rattle.cn_choice.proofs.ListLemmas.Filters.{kept, pairs_kept, was_in}
use Rattle.cn_choice.proofs.ListLemmas.Members.{AllPairs-from_Pairs, Contains-from_IsIn, IsIn, IsIn-from_Contains, IsIn-map, IsIn-map_from, Pairs, Pairs-map}
use Rattle.cn_choice.proofs.OrderLemmas.AllOrders.{listing_in_order}
use Rattle.cn_choice.proofs.OrderLemmas.OrderLists.{all_are_orders}

-- ---- the team of a process by its number

team_front : (a i : ℕ) (rest : List Team) → i < a → slice_get (replicate a A ++ rest) i ≡ Some A
team_front zero i rest l = absurd (omega (arith, l))
team_front (suc a) zero rest l = refl
team_front (suc a) (suc i) rest l = team_front a i rest (omega (arith, l))

team_back : (a b i : ℕ) → a ≤ i → i < a + b → slice_get (replicate a A ++ replicate b B) i ≡ Some B
team_back zero zero i l u = absurd (omega (arith, u))
team_back zero (suc b) zero l u = refl
team_back zero (suc b) (suc i) l u = team_back zero b i (omega arith) (omega (arith, u))
team_back (suc a) b zero l u = absurd (omega (arith, l))
team_back (suc a) b (suc i) l u = team_back a b i (omega (arith, l)) (omega (arith, u))

below_or_from : (i a : ℕ) → (i < a) ⊎ (a ≤ i)
below_or_from i zero = inr (omega arith)
below_or_from zero (suc a) = inl (omega arith)
below_or_from (suc i) (suc a) = elim (below_or_from i a) [ inl l ↦ inl (omega (arith, l)) | inr l ↦ inr (omega (arith, l)) ]

in_range : (c : Choice) (team : Team) (p : ℕ) → team_from c team ≤ p → p < team_to c team → slice_get (raw_choice_of c).marks p ≡ Some team
in_range c A p l u = team_front (length c.a) p _ u
in_range c B p l u = team_back (length c.a) (length c.b) p l u

of_team : (c : Choice) (team : Team) (p : ℕ) → p < length c.a + length c.b → slice_get (raw_choice_of c).marks p ≡ Some team → (team_from c team ≤ p) × (p < team_to c team)
of_team c A p l m = elim (below_or_from p (length c.a)) [
  | inl u ↦ (omega arith, u)
  | inr u ↦ (let other = sym (team_back (length c.a) (length c.b) p u l) ∙ m in absurd (cc other))
]
of_team c B p l m = elim (below_or_from p (length c.a)) [
  | inl u ↦ (let other = sym (team_front (length c.a) p (replicate (length c.b) B) u) ∙ m in absurd (cc other))
  | inr u ↦ (u, l)
]

-- ---- the test

pub begins_from : (c : Choice) (team : Team) (order : List ℕ) → begins_within (team_from c team) (team_to c team) order ≡ true → BeginsIn (raw_choice_of c) team order
begins_from c team [] e = absurd (true≢false (sym e))
begins_from c team (p ∷ ps) e =
    let r = and_parts _ _ e in
    (p, refl, in_range c team p (leb-true _ _ r.0) (ltb-true _ _ r.1))

pub begins_to : (c : Choice) (team : Team) (order : List ℕ) → All (λ p. p < length c.a + length c.b) order → BeginsIn (raw_choice_of c) team order
    → begins_within (team_from c team) (team_to c team) order ≡ true
begins_to c team [] k b = absurd (cc b.1)
begins_to c team (p ∷ ps) k b =
    let same : p ≡ b.0 = cc b.1 in
    let r = of_team c team p (recursion_from_All (λ p. p < length c.a + length c.b) (p ∷ ps) k).0 (subst (λ (i : ℕ). slice_get (raw_choice_of c).marks i ≡ Some team) (sym same) b.2) in
    and_from _ _ (le-leb _ _ r.0) (lt-ltb _ _ r.1)

has_from : (j : ℕ) (order : List ℕ) → list_any (λ process. nat_eq process j) order ≡ true → IsIn j order
has_from j [] e = absurd (true≢false (sym e))
has_from j (p ∷ ps) e = elim (or_cases (nat_eq p j) (list_any (λ process. nat_eq process j) ps) e) [ inl h ↦ inl (eqb-true p j h) | inr h ↦ inr (has_from j ps h) ]

has_to : (j : ℕ) (order : List ℕ) → IsIn j order → list_any (λ process. nat_eq process j) order ≡ true
has_to j [] i = absurd i
has_to j (p ∷ ps) i = elim i [
  | inl e ↦ or_left (nat_eq p j) (list_any (λ process. nat_eq process j) ps) (eq-eqb p j e)
  | inr k ↦ or_right (nat_eq p j) (list_any (λ process. nat_eq process j) ps) (has_to j ps k)
]

-- ---- the lists

abbrev pub items : ArrayVec ℕ → List ℕ
items o = o.items

-- they are the orders that begin in the team and contain the process
pub team_orders : (c : Choice) (team : Team) (j : ℕ) (o : ArrayVec ℕ)
    → Contains (orders_of c team j) o ↔ (IsOrder (length c.a + length c.b) o.items × BeginsIn (raw_choice_of c) team o.items × Contains o.items j)
team_orders c team j o = (
  λ h.
      let r = was_in test o (all_arrays n) (IsIn-from_Contains o (orders_of c team j) h) in
      let order = (all.every o.items).0 (Contains-from_IsIn o.items (map items (all_arrays n)) (IsIn-map items o (all_arrays n) r.0)) in
      let parts = and_parts _ _ r.1 in
      (order, begins_from c team o.items parts.0, Contains-from_IsIn j o.items (has_from j o.items parts.1)),
  λ h.
      let m = IsIn-map_from items o.items (all_arrays n) (IsIn-from_Contains o.items (map items (all_arrays n)) ((all.every o.items).1 h.0)) in
      let same : m.0 ≡ o = ap (λ (xs : List ℕ). let a : ArrayVec ℕ = record { items = xs } in a) m.1 in
      Contains-from_IsIn o (orders_of c team j) (kept test o (all_arrays n) (subst (λ (x : ArrayVec ℕ). IsIn x (all_arrays n)) same m.2)
      (and_from _ _ (begins_to c team o.items h.0.known h.1) (has_to j o.items (IsIn-from_Contains j o.items h.2)))),
)
  where
    n : ℕ
    n = length c.a + length c.b

    test : ArrayVec ℕ → Bool
    test o = is_taken (team_from c team) (team_to c team) j o.items

    all : AreAllOrders (length c.a + length c.b) (map (λ (o : ArrayVec ℕ). o.items) (all_arrays (length c.a + length c.b)))
    all = all_are_orders (length c.a + length c.b)

-- in list order
abbrev pub Before : ArrayVec ℕ → ArrayVec ℕ → Type 0
Before x y = ComesBefore x.items y.items

pub team_orders_pairs : (c : Choice) (team : Team) (j : ℕ) → Pairs Before (orders_of c team j)
team_orders_pairs c team j =
    pairs_kept (λ (o : ArrayVec ℕ). is_taken (team_from c team) (team_to c team) j o.items) Before (all_arrays (length c.a + length c.b))
    (Pairs-map as_array ComesBefore Before (all_orders (length c.a + length c.b)) (λ x y h. h) (listing_in_order (length c.a + length c.b)))

pub team_orders_rise : (c : Choice) (team : Team) (j : ℕ) → AllPairs Before (orders_of c team j)
team_orders_rise c team j = AllPairs-from_Pairs Before (orders_of c team j) (team_orders_pairs c team j)
