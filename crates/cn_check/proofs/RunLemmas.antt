-- Runs from a point, by the process that moves next.
use Rattle.std.proofs.Common.{◌≡◌, ◌≢◌, ℕ, ◌+◌, ◌<◌, ◌≤◌, ◌⊎◌, ◌==◌, inl, inr, List, [], ◌∷◌, Bool, true, false, true≢false, nat_eq, cond, length, refl, sym, ap, ◌∙◌, subst, arith}
use Rattle.std.proofs.Common.{◌↔◌, Option, Some, None, option_map, add-one, drop, drop-cons, get_or}
use Rattle.std.proofs.Math.Nat.{eq-or-lt_of_le}
use Rattle.std.proofs.lemmas.Bool.{eq-eqb, eqb-true, ne_eqb}
use Rattle.std.proofs.lemmas.List.Elements.{All-from_recursion, recursion_from_All}
use Rattle.std.proofs.lemmas.Option.{none-some, same_Some, some_pair_parts}
use Rattle.std.specs.List.{AllByRecursion, IsDistinct}
use Rattle.std.specs.Prelude.{slice_get}
use Rattle.cn_table.specs.Run.{responses_along, state_after}
use Rattle.cn_table.specs.TypeTable.{TypeTable}
use Rattle.cn_choice.specs.declared.team.Team.{Team}
use Rattle.cn_choice.specs.RawChoices.{RawChoice}
use Rattle.cn_choice.specs.Orders.{IsOrder}
use Rattle.cn_choice.specs.OutcomeSets.{BeginsIn, InOutcomeSet, operations_of, response_of}
use Rattle.cn_check.specs.Runs.{AreMoves, EndsIn, IsIn, ShowsBy, ShowsFrom, with_mover}
use Rattle.cn_choice.specs.Moves.{move_of}
use Rattle.cn_check.proofs.SetLemmas.{moved_before, moved_other, moved_same, none_in_0}
use Rattle.cn_check.proofs.WalkLemmas.{IsSeenAlong}

-- ---- cases

pub no_case : (N K : Type 0) → ¬ K → N ↔ (N ⊎ K)
no_case N K none = (λ x. inl x, λ x. elim x [ inl n ↦ n | inr k ↦ absurd (none k) ])

-- first the cases of S, then those of P
pub both_cases : (M N O S P L : Type 0) → M ↔ (O ⊎ S) → N ↔ (M ⊎ P) → L ↔ (S ⊎ P) → N ↔ (O ⊎ L)
both_cases M N O S P L m n l = (
  λ x. elim (n.0 x) [ inl y ↦ elim (m.0 y) [ inl o ↦ inl o | inr s ↦ inr (l.1 (inl s)) ] | inr p ↦ inr (l.1 (inr p)) ],
  λ x. elim x [ inl o ↦ n.1 (inl (m.1 (inl o))) | inr y ↦ elim (l.0 y) [ inl s ↦ n.1 (inl (m.1 (inr s))) | inr p ↦ n.1 (inr p) ] ],
)

pub same_case : (N O H K : Type 0) → N ↔ (O ⊎ H) → H ↔ K → N ↔ (O ⊎ K)
same_case N O H K n k = (λ x. elim (n.0 x) [ inl o ↦ inl o | inr h ↦ inr (k.0 h) ], λ x. elim x [ inl o ↦ n.1 (inl o) | inr y ↦ n.1 (inr (k.1 y)) ])

pub or_next : (M N L P K : Type 0) → M ↔ L → N ↔ (M ⊎ P) → K ↔ (L ⊎ P) → N ↔ K
or_next M N L P K m n k = (
  λ x. elim (n.0 x) [ inl y ↦ k.1 (inl (m.0 y)) | inr p ↦ k.1 (inr p) ],
  λ x. elim (k.0 x) [ inl y ↦ n.1 (inl (m.1 y)) | inr p ↦ n.1 (inr p) ],
)

pub with_fact : (X Y Z : Type 0) → X → Y ↔ Z → Z ↔ (X × Y)
with_fact X Y Z x e = (λ z. (x, e.1 z), λ h. e.0 h.1)

pub as_other : (M N L : Type 0) → M ↔ L → N ↔ L → M ↔ N
as_other M N L m n = (λ x. n.1 (m.0 x), λ y. m.1 (n.0 y))

-- something that holds of a number below this one
abbrev pub Below : (ℕ → Type 0) → ℕ → Type 0
Below P k = (p : ℕ) × (p < k) × P p

pub below_next : (P : ℕ → Type 0) (k : ℕ) → Below P (k + 1) ↔ (Below P k ⊎ P k)
below_next P k = (
  λ h.
      let at_most : h.0 ≤ k = omega (arith, h.1) in
      elim (eq-or-lt_of_le at_most) [ inl same ↦ inr (subst P same h.2) | inr less ↦ inl (h.0, less, h.2) ],
  λ h. elim h [ inl b ↦ (b.0, omega (arith, b.1), b.2) | inr x ↦ (k, omega arith, x) ],
)

-- ---- the first of some moves

fresh_more : (used p : ℕ) (moves : List ℕ) → AllByRecursion (λ q. ¬ IsIn used q) moves → AllByRecursion (λ q. nat_eq p q ≡ false) moves → AllByRecursion (λ q. ¬ IsIn (with_mover used p) q) moves
fresh_more used p [] h d = tt
fresh_more used p (q ∷ moves) h d = (λ m. h.0 (moved_other used p q (λ e. true≢false (sym (eq-eqb p q (sym e)) ∙ d.0)) m), fresh_more used p moves h.1 d.1)

fresh_less : (used p : ℕ) (moves : List ℕ) → AllByRecursion (λ q. ¬ IsIn (with_mover used p) q) moves → AllByRecursion (λ q. ¬ IsIn used q) moves
fresh_less used p [] h = tt
fresh_less used p (q ∷ moves) h = (λ m. h.0 (moved_before used p q m), fresh_less used p moves h.1)

distinct_from : (used p : ℕ) (moves : List ℕ) → AllByRecursion (λ q. ¬ IsIn (with_mover used p) q) moves → AllByRecursion (λ q. nat_eq p q ≡ false) moves
distinct_from used p [] h = tt
distinct_from used p (q ∷ moves) h = (ne_eqb p q (λ e. h.0 (subst (IsIn (with_mover used p)) e (moved_same used p))), distinct_from used p moves h.1)

pub no_moves : (n used : ℕ) → AreMoves n used []
unfolding IsDistinct
no_moves n used = record { known = tt; distinct = tt; fresh = tt }

pub later_moves : (n used p : ℕ) (moves : List ℕ) → AreMoves n used (p ∷ moves) → AreMoves n (with_mover used p) moves
unfolding IsDistinct
later_moves n used p moves h = record { known = h.known.1; distinct = h.distinct.1; fresh = fresh_more used p moves h.fresh.1 h.distinct.0 }

pub first_move : (n used p : ℕ) (moves : List ℕ) → p < n → ¬ IsIn used p → AreMoves n (with_mover used p) moves → AreMoves n used (p ∷ moves)
unfolding IsDistinct
first_move n used p moves known new h = record {
  known = (known, h.known);
  distinct = (distinct_from used p moves h.fresh, h.distinct);
  fresh = (new, fresh_less used p moves h.fresh);
}

-- an order of some of n processes is moves where nobody has moved yet, at least one
pub order_is_moves : (n : ℕ) (order : List ℕ) → IsOrder n order ↔ ((order ≢ []) × AreMoves n 0 order)
order_is_moves n order = (
  λ is. (is.someone, record { known = recursion_from_All _ _ is.known; distinct = is.distinct; fresh = all_new order }),
  λ h. record { someone = h.0; known = All-from_recursion (λ p. p < n) order h.1.known; distinct = h.1.distinct },
)
  where
    all_new : (moves : List ℕ) → AllByRecursion (λ p. ¬ IsIn 0 p) moves
    all_new [] = tt
    all_new (p ∷ moves) = (none_in_0 p, all_new moves)

-- moves from a place of a list on, by the process at the place
pub moves_at : (n used : ℕ) (list : List ℕ) (i : ℕ) → i < length list
    → AreMoves n used (drop i list) ↔ ((get_or list i 0 < n) × (¬ IsIn used (get_or list i 0)) × AreMoves n (with_mover used (get_or list i 0)) (drop (i + 1) list))
moves_at n used list i l =
    let p : ℕ = get_or list i 0 in
    let split : drop i list ≡ p ∷ drop (i + 1) list = rw (add-one, drop-cons list i 0) refl in (
      λ h. let are = subst (AreMoves n used) split h in (are.known.0, are.fresh.0, later_moves n used p (drop (i + 1) list) are),
      λ h. subst (AreMoves n used) (sym split) (first_move n used p (drop (i + 1) list) h.0 h.1 h.2),
    )

-- who is in the response's place has moved
is_fresh : (used j r : ℕ) (moves responses : List ℕ) → AllByRecursion (λ q. ¬ IsIn used q) moves → response_of j moves responses ≡ Some r → ¬ IsIn used j
is_fresh used j r [] responses h e = absurd (none-some r e)
is_fresh used j r (p ∷ moves) [] h e = absurd (none-some r e)
is_fresh used j r (p ∷ moves) (x ∷ responses) h e = by_test (λ f. is_fresh used j r moves responses h.1 f) (p == j) refl e
  where
    by_test : (response_of j moves responses ≡ Some r → ¬ IsIn used j) → (b : Bool) → (p == j) ≡ b → cond b (Some x) (response_of j moves responses) ≡ Some r → ¬ IsIn used j
    by_test later true same f = subst (λ (q : ℕ). ¬ IsIn used q) (eqb-true p j same) h.0
    by_test later false other f = later f

module _ (t : TypeTable) (c : RawChoice) (used state : ℕ) where
  -- process p, which has not moved, moves first, and the object is left in state q
  abbrev pub EndsNext : ℕ → ℕ → Type 0
  EndsNext q p = (¬ IsIn used p) × EndsIn t c (with_mover used p) (move_of t c p state).1 q

  -- process p, which has not moved, moves first, and process j gets the pair
  abbrev pub ShowsNext : ℕ → ℕ → ℕ → ℕ → Type 0
  ShowsNext j r q p = (¬ IsIn used p) × ShowsBy t c used state p j r q

  pub ends_by_first : (n q : ℕ) → n ≡ length c.operations → EndsIn t c used state q ↔ ((q ≡ state) ⊎ Below (EndsNext q) n)
  ends_by_first n q all = (
    λ h. from_moves h.0 h.1 h.2,
    λ h. elim h [
      | inl e ↦ ([], no_moves (length c.operations) used, sym e)
      | inr b ↦
          (b.0 ∷ b.2.1.0, first_move (length c.operations) used b.0 b.2.1.0 (omega (arith, b.1, all)) b.2.0 b.2.1.1, b.2.1.2)
    ],
  )
    where
      from_moves : (moves : List ℕ) → AreMoves (length c.operations) used moves → state_after t state (operations_of c moves) ≡ q → (q ≡ state) ⊎ Below (EndsNext q) n
      from_moves [] are e = inl (sym e)
      from_moves (p ∷ moves) are e = inr (p, omega (arith, are.known.0, all), (are.fresh.0, (moves, later_moves (length c.operations) used p moves are, e)))

  -- what is shown after a first move of process p, or by it
  shown_first : (p j r q : ℕ) (moves : List ℕ) → AreMoves (length c.operations) (with_mover used p) moves → response_of j (p ∷ moves) (responses_along t state (operations_of c (p ∷ moves))) ≡ Some r
      → state_after t (move_of t c p state).1 (operations_of c moves) ≡ q → ShowsBy t c used state p j r q
  shown_first p j r q moves are e left = by_test (p == j) refl e
    where
      by_test : (b : Bool) → (p == j) ≡ b → cond b (Some (move_of t c p state).0) (response_of j moves (responses_along t (move_of t c p state).1 (operations_of c moves))) ≡ Some r
          → ShowsBy t c used state p j r q
      by_test true same f = inr (sym (eqb-true p j same), sym (same_Some _ _ f), (moves, are, left))
      by_test false other f = inl (moves, are, f, left)

  -- the moves with process p first, and what they show
  abbrev pub ShowsAfter : ℕ → ℕ → ℕ → ℕ → Type 0
  ShowsAfter p j r q =
      (moves : List ℕ) × AreMoves (length c.operations) used (p ∷ moves) × (response_of j (p ∷ moves) (responses_along t state (operations_of c (p ∷ moves))) ≡ Some r)
      × (state_after t state (operations_of c (p ∷ moves)) ≡ q)

  -- and the other way round
  first_shown : (p j r q : ℕ) → p < length c.operations → ¬ IsIn used p → ShowsBy t c used state p j r q → ShowsAfter p j r q
  first_shown p j r q known new (inl (moves, are, e, left)) = (moves, first_move (length c.operations) used p moves known new are, other, left)
    where
      apart : p ≢ j
      apart same = is_fresh (with_mover used p) j r moves _ are.fresh e (subst (IsIn (with_mover used p)) same (moved_same used p))

      other : response_of j (p ∷ moves) (responses_along t state (operations_of c (p ∷ moves))) ≡ Some r
      other = ap (λ b. cond b (Some (move_of t c p state).0) (response_of j moves (responses_along t (move_of t c p state).1 (operations_of c moves)))) (ne_eqb p j apart) ∙ e
  first_shown p j r q known new (inr (same, response, (moves, are, left))) = (moves, first_move (length c.operations) used p moves known new are, here, left)
    where
      here : response_of j (p ∷ moves) (responses_along t state (operations_of c (p ∷ moves))) ≡ Some r
      here = ap (λ b. cond b (Some (move_of t c p state).0) (response_of j moves (responses_along t (move_of t c p state).1 (operations_of c moves)))) (eq-eqb p j (sym same)) ∙ ap Some (sym response)

  pub shows_by_first : (n j r q : ℕ) → n ≡ length c.operations → ShowsFrom t c used state j r q ↔ Below (ShowsNext j r q) n
  shows_by_first n j r q all = (λ h. from_moves h.0 h.1 h.2 h.3, λ b. let f = first_shown b.0 j r q (omega (arith, b.1, all)) b.2.0 b.2.1 in (b.0 ∷ f.0, f.1, f.2, f.3))
    where
      from_moves : (moves : List ℕ) → AreMoves (length c.operations) used moves → response_of j moves (responses_along t state (operations_of c moves)) ≡ Some r
          → state_after t state (operations_of c moves) ≡ q → Below (ShowsNext j r q) n
      from_moves [] are e left = absurd (none-some r e)
      from_moves (p ∷ moves) are e left = (p, omega (arith, are.known.0, all), (are.fresh.0, shown_first p j r q moves (later_moves (length c.operations) used p moves are) e left))

-- ---- orders, by the process that moves first

module _ (t : TypeTable) (c : RawChoice) (team : Team) (j r q : ℕ) where
  -- process p, of the team, moves first, and process j gets the pair
  abbrev pub ShowsFirst : ℕ → Type 0
  ShowsFirst p = (slice_get c.marks p ≡ Some team) × ShowsBy t c 0 c.state p j r q

  parts : (response : Option ℕ) (state : ℕ) → option_map {U = ℕ × ℕ} (λ x. (x, state)) response ≡ Some (r, q) → (response ≡ Some r) × (state ≡ q)
  parts None state e = absurd (none-some (r, q) e)
  parts (Some x) state e = let p = some_pair_parts x r state q e in (ap Some p.0, p.1)

  from_order : IsSeenAlong → (n : ℕ) → n ≡ length c.operations → InOutcomeSet t c team j (r, q) → Below ShowsFirst n
  from_order seen n all (order, is, begins, shown) =
      cases order ((order_is_moves (length c.operations) order).0 is).1 begins (parts _ _ (sym (seen t c order j) ∙ shown))
    where
      cases : (moves : List ℕ) → AreMoves (length c.operations) 0 moves → BeginsIn c team moves
          → (response_of j moves (responses_along t c.state (operations_of c moves)) ≡ Some r) × (state_after t c.state (operations_of c moves) ≡ q) → Below ShowsFirst n
      cases [] are begins shown = absurd (none-some begins.0 begins.1)
      cases (p ∷ moves) are begins shown = (
        p,
        omega (arith, are.known.0, all),
        (
          subst (λ (x : ℕ). slice_get c.marks x ≡ Some team) (sym (same_Some p begins.0 begins.1)) begins.2,
          shown_first t c 0 c.state p j r q moves (later_moves (length c.operations) 0 p moves are) shown.0 shown.1,
        ),
      )

  to_order : IsSeenAlong → (p : ℕ) → slice_get c.marks p ≡ Some team → ShowsAfter t c 0 c.state p j r q → InOutcomeSet t c team j (r, q)
  to_order seen p mark (moves, are, e, left) = (
    p ∷ moves,
    (order_is_moves (length c.operations) (p ∷ moves)).1 (λ none. absurd (cc none), are),
    (p, refl, mark),
    seen t c (p ∷ moves) j ∙ rw (e, left) refl,
  )

  pub orders_by_first : IsSeenAlong → (n : ℕ) → n ≡ length c.operations → InOutcomeSet t c team j (r, q) ↔ Below ShowsFirst n
  orders_by_first seen n all = (
    λ h. from_order seen n all h,
    λ b. to_order seen b.0 b.2.0 (first_shown t c 0 c.state b.0 j r q (omega (arith, b.1, all)) (none_in_0 b.0) b.2.1),
  )

-- ---- one move and a walk from where it leads

module _ (t : TypeTable) (c : RawChoice) (used state p response after u later : ℕ) (move : (response, after) ≡ move_of t c p state) (with : u ≡ with_mover used p)
    (ends : (q : ℕ) → IsIn later q ↔ EndsIn t c u after q) where
  pub ends_by : (q : ℕ) → EndsIn t c (with_mover used p) (move_of t c p state).1 q ↔ IsIn later q
  ends_by q =
      let same : after ≡ (move_of t c p state).1 = ap (λ (m : ℕ × ℕ). m.1) move in (
        λ h. (ends q).1 (subst (λ (x : ℕ). EndsIn t c x after q) (sym with) (subst (λ (x : ℕ). EndsIn t c (with_mover used p) x q) (sym same) h)),
        λ h. subst (λ (x : ℕ). EndsIn t c (with_mover used p) x q) same (subst (λ (x : ℕ). EndsIn t c x after q) with ((ends q).0 h)),
      )

  pub shows_by : (j r q : ℕ) → ShowsBy t c used state p j r q ↔ (ShowsFrom t c u after j r q ⊎ ((j ≡ p) × (r ≡ response) × IsIn later q))
  shows_by j r q =
      let first : response ≡ (move_of t c p state).0 = ap (λ (m : ℕ × ℕ). m.0) move in
      let same : after ≡ (move_of t c p state).1 = ap (λ (m : ℕ × ℕ). m.1) move in (
        λ h. elim h [
          | inl s ↦ inl (subst (λ (x : ℕ). ShowsFrom t c x after j r q) (sym with) (subst (λ (x : ℕ). ShowsFrom t c (with_mover used p) x j r q) (sym same) s))
          | inr e ↦ inr (e.0, e.1 ∙ sym first, (ends_by q).0 e.2)
        ],
        λ h. elim h [
          | inl s ↦ inl (subst (λ (x : ℕ). ShowsFrom t c (with_mover used p) x j r q) same (subst (λ (x : ℕ). ShowsFrom t c x after j r q) with s))
          | inr e ↦ inr (e.0, e.1 ∙ first, (ends_by q).1 e.2)
        ],
      )
