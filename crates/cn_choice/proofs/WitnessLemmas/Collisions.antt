-- A choice without collisions is a witness. Any other choice has one recorded collision.
use Rattle.std.proofs.Common.{◌≡◌, ◌≢◌, ℕ, zero, suc, ◌+◌, ◌<◌, ◌⊎◌, inl, inr, List, [], ◌∷◌, length, get_or, refl, sym, ap, ◌∙◌, subst, arith, below_more, ◌↔◌, Option, Some, None}
use Rattle.std.specs.Prelude.{slice_get}
use Rattle.std.proofs.lemmas.Bool.{cases_eq, cases_order}
use Rattle.std.proofs.lemmas.Option.{none-some, same_Some, some_pair_parts}
use Rattle.cn_choice.specs.declared.team.Team.{Team}
use Rattle.cn_choice.specs.declared.team.Team.TheVariants.{A, B}
use Rattle.cn_table.specs.TypeTable.{TypeTable}
use Rattle.cn_choice.specs.RawChoices.{RawChoice}
use Rattle.cn_choice.specs.FirstCollision.{HasCollision, HasRecorded, IsFirstCollision}
use Rattle.cn_choice.specs.Orders.{ComesBefore}
use Rattle.cn_choice.specs.OutcomeSets.{BeginsIn, InOutcomeSet, pair_of}
use Rattle.cn_choice.specs.Orders.{IsOrder}
use Rattle.cn_choice.specs.Collisions.{IsCollision, IsRecordedCollision}
use Rattle.cn_choice.specs.Discerning.{IsWitness}
use Rattle.cn_choice.proofs.OrderLemmas.Walks.{the_pair}
use Rattle.cn_choice.proofs.WitnessLemmas.CollisionOrder.{cases_before, place_before}
use Rattle.cn_choice.proofs.OrderLemmas.AllOrders.{listed, to_listed, listing_in_order}
use Rattle.cn_choice.proofs.ListLemmas.Members.{IsIn-at, place_of, AllPairs-from_Pairs}
use Rattle.cn_choice.proofs.OrderLemmas.Walks.{pair_takes_part}
use Rattle.cn_choice.specs.OrdersLeft.{all_orders}

pub no_witness : (t : TypeTable) (c : RawChoice) (j : ℕ) (alpha beta : List ℕ) → IsCollision t c j alpha beta → ¬ IsWitness t c
no_witness t c j alpha beta k w =
    let p = the_pair _ k.takes_part in
    w j p.0 (alpha, k.alpha_order, k.alpha_in_a, p.1) (beta, k.beta_order, k.beta_in_b, sym k.same ∙ p.1)

pub witness : (t : TypeTable) (c : RawChoice) → ((j : ℕ) → j < length c.operations → (alpha beta : List ℕ) → ¬ IsCollision t c j alpha beta) → IsWitness t c
witness t c none j pair a b =
    none j (pair_takes_part t c (length c.operations) a.0 j pair a.1.known a.3) a.0 b.0 (record {
      alpha_order = a.1;
      beta_order = b.1;
      alpha_in_a = a.2;
      beta_in_b = b.2;
      takes_part = λ e. none-some pair (sym e ∙ a.3);
      same = a.3 ∙ sym b.3;
    })

-- ---- the first element, or the least number, with a decidable property

module _ {X : Type 0} (P : X → Type 0) (test : (x : X) → P x ⊎ ¬ P x) (d : X) where
  pub first_place : (xs : List X) → ((i : ℕ) × (i < length xs) × P (get_or xs i d) × ((k : ℕ) → k < i → ¬ P (get_or xs k d))) ⊎ ((k : ℕ) → k < length xs → ¬ P (get_or xs k d))
  first_place [] = inr (λ k l. absurd (omega arith))
  first_place (x ∷ xs) = elim (test x) [
    | inl here ↦ inl (zero, omega arith, here, λ k l. absurd (omega arith))
    | inr fails ↦ elim (first_place xs) [
      | inl r ↦ inl (suc r.0, omega (arith, r.1), r.2, earlier fails r.0 r.3)
      | inr none ↦ inr (later fails none)
    ]
  ]
    where
      earlier : ¬ P x → (i : ℕ) → ((k : ℕ) → k < i → ¬ P (get_or xs k d)) → (k : ℕ) → k < suc i → ¬ P (get_or (x ∷ xs) k d)
      earlier fails i none zero l = fails
      earlier fails i none (suc k) l = none k (omega arith)

      later : ¬ P x → ((k : ℕ) → k < length xs → ¬ P (get_or xs k d)) → (k : ℕ) → k < length (x ∷ xs) → ¬ P (get_or (x ∷ xs) k d)
      later fails none zero l = fails
      later fails none (suc k) l = none k (omega arith)

module _ (P : ℕ → Type 0) (test : (j : ℕ) → P j ⊎ ¬ P j) where
  pub least : (n : ℕ) → ((j : ℕ) × P j × ((i : ℕ) → i < j → ¬ P i)) ⊎ ((j : ℕ) → j < n → ¬ P j)
  least zero = inr (λ j l. absurd (omega arith))
  least (suc n) = elim (least n) [
    | inl r ↦ inl r
    | inr none ↦ elim (test n) [
      | inl here ↦ inl (n, here, none)
      | inr fails ↦ (let one : n + 1 ≡ suc n = omega arith in inr (subst (λ (m : ℕ). (j : ℕ) → j < m → ¬ P j) one (below_more _ n none fails)))
    ]
  ]

-- ---- the pairs of two orders can be compared

same_team : (s t : Team) → (s ≡ t) ⊎ (s ≢ t)
same_team A A = inl refl
same_team A B = inr (λ e. cc e)
same_team B A = inr (λ e. cc e)
same_team B B = inl refl

begins_in : (c : RawChoice) (team : Team) (order : List ℕ) → BeginsIn c team order ⊎ ¬ BeginsIn c team order
begins_in c team [] = inr (λ h. none-some h.0 h.1)
begins_in c team (p ∷ ps) = by_team (slice_get c.marks p) refl
  where
    by_team : (m : Option Team) → slice_get c.marks p ≡ m → BeginsIn c team (p ∷ ps) ⊎ ¬ BeginsIn c team (p ∷ ps)
    by_team None e = inr (λ h. none-some team (sym e ∙ (ap (slice_get c.marks) (same_Some p h.0 h.1) ∙ h.2)))
    by_team (Some other) e = elim (same_team other team) [
      | inl same ↦ inl (p, refl, e ∙ ap Some same)
      | inr fails ↦ inr (λ h. fails (same_Some other team (sym e ∙ (ap (slice_get c.marks) (same_Some p h.0 h.1) ∙ h.2))))
    ]

same_outcome : (o u : Option (ℕ × ℕ)) → (o ≡ u) ⊎ (o ≢ u)
same_outcome None None = inl refl
same_outcome None (Some q) = inr (λ e. none-some q e)
same_outcome (Some p) None = inr (λ e. none-some p (sym e))
same_outcome (Some p) (Some q) = elim (cases_eq p.0 q.0) [
  | inl e ↦ elim (cases_eq p.1 q.1) [
    | inl f ↦ inl (both e f)
    | inr fails ↦ inr (λ g. fails (some_pair_parts p.0 q.0 p.1 q.1 g).1)
  ]
  | inr fails ↦ inr (λ g. fails (some_pair_parts p.0 q.0 p.1 q.1 g).0)
]
  where
    both : p.0 ≡ q.0 → p.1 ≡ q.1 → ◌≡◌ {A = Option (ℕ × ℕ)} (Some p) (Some q)
    both e f = ap (λ x. Some (x, p.1)) e ∙ ap (λ y. Some (q.0, y)) f

-- the first begins in A, the second in B, and process j gets the same pair from both
abbrev Meets : TypeTable → RawChoice → ℕ → List ℕ → List ℕ → Type 0
Meets t c j x y = BeginsIn c A x × BeginsIn c B y × (pair_of t c x j ≢ None) × (pair_of t c x j ≡ pair_of t c y j)

meets : (t : TypeTable) (c : RawChoice) (j : ℕ) (x y : List ℕ) → Meets t c j x y ⊎ ¬ Meets t c j x y
meets t c j x y = elim (begins_in c A x) [
  | inr fails ↦ inr (λ h. fails h.0)
  | inl a ↦ elim (begins_in c B y) [
    | inr fails ↦ inr (λ h. fails h.1)
    | inl b ↦ elim (same_outcome (pair_of t c x j) None) [
      | inl none ↦ inr (λ h. h.2 none)
      | inr some ↦ elim (same_outcome (pair_of t c x j) (pair_of t c y j)) [ inl same ↦ inl (a, b, some, same) | inr fails ↦ inr (λ h. fails h.3) ]
    ]
  ]
]

-- ---- the first collision of each process, and the recorded one

module _ (t : TypeTable) (c : RawChoice) where
  abbrev orders : List (List ℕ)
  orders = all_orders (length c.operations)

  abbrev MeetsSome : ℕ → List ℕ → Type 0
  MeetsSome j x = (k : ℕ) × (k < length orders) × Meets t c j x (get_or orders k [])

  order_at : (k : ℕ) → k < length orders → IsOrder (length c.operations) (get_or orders k [])
  order_at k l = listed (length c.operations) (get_or orders k []) (IsIn-at orders k [] l)

  place : (x : List ℕ) → IsOrder (length c.operations) x → (i : ℕ) × (i < length orders) × (get_or orders i [] ≡ x)
  place x o = place_of x orders [] (to_listed (length c.operations) x o)

  before : (i k : ℕ) (x : List ℕ) → i < length orders → k < length orders → get_or orders i [] ≡ x → ComesBefore x (get_or orders k []) → i < k
  before i k x l u e b = place_before orders i k x (get_or orders k []) (AllPairs-from_Pairs ComesBefore orders (listing_in_order (length c.operations))) l u e refl b

  -- the order begins in the team and shows the pair to process j
  abbrev Shows : Team → ℕ → ℕ × ℕ → List ℕ → Type 0
  Shows team j pair x = BeginsIn c team x × (pair_of t c x j ≡ Some pair)

  shows : (team : Team) (j : ℕ) (pair : ℕ × ℕ) (x : List ℕ) → Shows team j pair x ⊎ ¬ Shows team j pair x
  shows team j pair x = elim (begins_in c team x) [
    | inr fails ↦ inr (λ h. fails h.0)
    | inl begins ↦ elim (same_outcome (pair_of t c x j) (Some pair)) [ inl same ↦ inl (begins, same) | inr fails ↦ inr (λ h. fails h.1) ]
  ]

  pub in_outcome_set_or_not : (team : Team) (j : ℕ) (pair : ℕ × ℕ) → InOutcomeSet t c team j pair ⊎ ¬ InOutcomeSet t c team j pair
  in_outcome_set_or_not team j pair = elim (first_place (Shows team j pair) (shows team j pair) [] orders) [
    | inl r ↦ inl (get_or orders r.0 [], order_at r.0 r.1, r.2.0, r.2.1)
    | inr none ↦ inr (λ h. let p = place h.0 h.1 in none p.0 p.1 (subst (Shows team j pair) (sym p.2) (h.2, h.3)))
  ]

  collision : (j : ℕ) (x y : List ℕ) → IsOrder (length c.operations) x → IsOrder (length c.operations) y → Meets t c j x y → IsCollision t c j x y
  collision j x y o u m = record { alpha_order = o; beta_order = u; alpha_in_a = m.0; beta_in_b = m.1; takes_part = m.2; same = m.3 }

  meeting : (j : ℕ) (x y : List ℕ) → IsCollision t c j x y → Meets t c j x y
  meeting j x y k = (k.alpha_in_a, k.beta_in_b, k.takes_part, k.same)

  meets_some : (j : ℕ) (x : List ℕ) → MeetsSome j x ⊎ ¬ MeetsSome j x
  meets_some j x = elim (first_place (Meets t c j x) (meets t c j x) [] orders) [ inl r ↦ inl (r.0, r.1, r.2) | inr none ↦ inr (λ h. none h.0 h.1 h.2) ]

  some_from : (j : ℕ) (x y : List ℕ) → IsCollision t c j x y → MeetsSome j x
  some_from j x y k = let p = place y k.beta_order in (p.0, p.1, subst (Meets t c j x) (sym p.2) (meeting j x y k))

  pub of_process : (j : ℕ) → ((alpha : List ℕ) × (beta : List ℕ) × IsFirstCollision t c j alpha beta) ⊎ ((x y : List ℕ) → ¬ IsCollision t c j x y)
  of_process j = elim (first_place (MeetsSome j) (meets_some j) [] orders) [
    | inr none ↦ inr (λ x y k. let p = place x k.alpha_order in none p.0 p.1 (subst (MeetsSome j) (sym p.2) (some_from j x y k)))
    | inl a ↦ elim (first_place (Meets t c j (get_or orders a.0 [])) (meets t c j (get_or orders a.0 [])) [] orders) [
      | inr none ↦ absurd (none a.2.0 a.2.1 a.2.2)
      | inl b ↦ inl (
        get_or orders a.0 [],
        get_or orders b.0 [],
        record {
          collision = collision j (get_or orders a.0 []) (get_or orders b.0 []) (order_at a.0 a.1) (order_at b.0 b.1) b.2;
          first_alpha = λ x y h k. let p = place x k.alpha_order in a.3 p.0 (before p.0 a.0 x p.1 a.1 p.2 h) (subst (MeetsSome j) (sym p.2) (some_from j x y k));
          first_beta = λ y h k. let p = place y k.beta_order in b.3 p.0 (before p.0 b.0 y p.1 b.1 p.2 h) (subst (Meets t c j (get_or orders a.0 [])) (sym p.2) (meeting j (get_or orders a.0 []) y k));
        },
      )
    ]
  ]

  abbrev HasFirst : ℕ → Type 0
  HasFirst j = (alpha : List ℕ) × (beta : List ℕ) × IsFirstCollision t c j alpha beta

  has_first : (j : ℕ) → HasFirst j ⊎ ¬ HasFirst j
  has_first j = elim (of_process j) [ inl f ↦ inl f | inr none ↦ inr (λ h. none h.0 h.1 h.2.collision) ]

  no_collision : (j : ℕ) → ¬ HasFirst j → (x y : List ℕ) → ¬ IsCollision t c j x y
  no_collision j none = elim (of_process j) [ inl f ↦ absurd (none f) | inr fails ↦ fails ]

  pub witness_or_recorded : IsWitness t c ⊎ HasRecorded t c
  witness_or_recorded = elim (least HasFirst has_first (length c.operations)) [
    | inr none ↦ inl (witness t c (λ j l. no_collision j (none j l)))
    | inl r ↦
        (let first = r.1 in
        inr (r.0, first.0, first.1, record { collision = first.2.collision; least = λ i x y l. no_collision i (r.2 i l) x y; first_alpha = first.2.first_alpha; first_beta = first.2.first_beta }))
  ]

  pub collision_unless_witness : HasCollision t c ↔ ¬ IsWitness t c
  collision_unless_witness = (
    λ h. no_witness t c h.0 h.1 h.2 h.3,
    λ fails. elim witness_or_recorded [ inl w ↦ absurd (fails w) | inr r ↦ (r.0, r.1, r.2, r.3.collision) ],
  )

  -- no two different collisions are the recorded one
  same_process : (i j : ℕ) (x y v w : List ℕ) → IsRecordedCollision t c i x y → IsRecordedCollision t c j v w → i ≡ j
  same_process i j x y v w r s = elim (cases_order i j) [
    | inl e ↦ e
    | inr apart ↦ elim apart [ inl l ↦ absurd (s.least i x y l r.collision) | inr l ↦ absurd (r.least j v w l s.collision) ]
  ]

  same_alpha : (j : ℕ) (x y v w : List ℕ) → IsRecordedCollision t c j x y → IsRecordedCollision t c j v w → x ≡ v
  same_alpha j x y v w r s = elim (cases_before x v) [
    | inl l ↦ absurd (s.first_alpha x y l r.collision)
    | inr other ↦ elim other [ inl e ↦ e | inr l ↦ absurd (r.first_alpha v w l s.collision) ]
  ]

  same_beta : (j : ℕ) (x y w : List ℕ) → IsRecordedCollision t c j x y → IsRecordedCollision t c j x w → y ≡ w
  same_beta j x y w r s = elim (cases_before y w) [
    | inl l ↦ absurd (s.first_beta y l r.collision)
    | inr other ↦ elim other [ inl e ↦ e | inr l ↦ absurd (r.first_beta w l s.collision) ]
  ]

  pub one_recorded : (i j : ℕ) (x y v w : List ℕ) → IsRecordedCollision t c i x y → IsRecordedCollision t c j v w → (i ≡ j) × (x ≡ v) × (y ≡ w)
  one_recorded i j x y v w r s =
      let e = same_process i j x y v w r s in
      let s' : IsRecordedCollision t c i v w = subst (λ (k : ℕ). IsRecordedCollision t c k v w) (sym e) s in
      let f = same_alpha i x y v w r s' in
      let s'' : IsRecordedCollision t c i x w = subst (λ (z : List ℕ). IsRecordedCollision t c i z w) (sym f) s' in
      (e, f, same_beta i x y w r s'')
