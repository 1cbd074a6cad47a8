-- Whether a choice is a recording witness is decided: it is one, or orders show that it is none.
use Rattle.std.proofs.Common.{◌≡◌, ◌≢◌, ℕ, ◌<◌, ◌⊎◌, inl, inr, List, [], ◌∷◌, length, get_or, refl}
use Rattle.std.proofs.Common.{sym, ap, ◌∙◌, subst, Option, Some, None}
use Rattle.std.specs.Prelude.{slice_get}
use Rattle.std.proofs.lemmas.Bool.{cases_eq}
use Rattle.cn_table.specs.Run.{state_after}
use Rattle.cn_table.specs.TypeTable.{TypeTable}
use Rattle.cn_choice.specs.Orders.{IsOrder}
use Rattle.cn_choice.specs.OrdersLeft.{all_orders}
use Rattle.cn_choice.specs.OutcomeSets.{BeginsIn, operations_of}
use Rattle.cn_choice.specs.RawChoices.{RawChoice}
use Rattle.cn_choice.specs.Renumbering.{other}
use Rattle.cn_choice.specs.declared.team.Team.{Team}
use Rattle.cn_choice.specs.declared.team.Team.TheVariants.{A, B}
use Rattle.cn_choice.proofs.OrderLemmas.AllOrders.{listed, to_listed}
use Rattle.cn_choice.proofs.ListLemmas.Members.{IsIn-at, place_of}
use Rattle.cn_outcomes.specs.LeftStates.{LeavesIn}
use Rattle.cn_consensus.proofs.Counting.{first_or_all}
use Rattle.cn_recover.specs.Recording.{HasTwo, IsRecordingWitness}

-- some order has a decidable property, or none has
module _ (n : ℕ) (Q : List ℕ → Type 0) (test : (x : List ℕ) → Q x ⊎ ¬ Q x) where
  abbrev orders : List (List ℕ)
  orders = all_orders n

  abbrev SomeOrder : Type 0
  SomeOrder = (x : List ℕ) × IsOrder n x × Q x

  at_place : (i : ℕ) → i < length orders → (¬ Q (get_or orders i [])) ⊎ SomeOrder
  at_place i l = elim (test (get_or orders i [])) [
    | inl h ↦ inr (get_or orders i [], listed n (get_or orders i []) (IsIn-at orders i [] l), h)
    | inr fails ↦ inl fails
  ]

  order_or_none : SomeOrder ⊎ ((x : List ℕ) → IsOrder n x → ¬ Q x)
  order_or_none =
      elim (first_or_all (length orders) (λ i. ¬ Q (get_or orders i [])) SomeOrder at_place) [
        | inr found ↦ inl found
        | inl none ↦ inr (λ x o h.
            (let p = place_of x orders [] (to_listed n x o) in
            none p.0 p.1 (subst Q (sym p.2) h)))
      ]

same_team : (s r : Team) → (s ≡ r) ⊎ (s ≢ r)
same_team A A = inl refl
same_team A B = inr (λ e. cc e)
same_team B A = inr (λ e. cc e)
same_team B B = inl refl

module _ (t : TypeTable) (c : RawChoice) where
  abbrev long : ℕ
  long = length c.operations

  mark_or_not : (i : ℕ) (team : Team)
      → (slice_get c.marks i ≡ Some team) ⊎ ¬ (slice_get c.marks i ≡ Some team)
  mark_or_not i team = by_mark (slice_get c.marks i) refl
    where
      by_mark : (m : Option Team) → slice_get c.marks i ≡ m
          → (slice_get c.marks i ≡ Some team) ⊎ ¬ (slice_get c.marks i ≡ Some team)
      by_mark None e = inr (λ f. absurd (cc (e, f)))
      by_mark (Some side) e = elim (same_team side team) [
        | inl s ↦ inl (e ∙ ap Some s)
        | inr d ↦ inr (λ f. d (cc (e, f)))
      ]

  begins_or_not : (team : Team) (order : List ℕ) → BeginsIn c team order ⊎ ¬ BeginsIn c team order
  begins_or_not team [] = inr (λ h. absurd (cc h.1))
  begins_or_not team (p ∷ ps) = elim (mark_or_not p team) [
    | inl e ↦ inl (p, refl, e)
    | inr fails ↦ inr (λ h. fails (let first : p ≡ h.0 = cc h.1 in
        ap (slice_get c.marks) first ∙ h.2))
  ]

  abbrev Leads : Team → ℕ → List ℕ → Type 0
  Leads team q x = BeginsIn c team x × (state_after t c.state (operations_of c x) ≡ q)

  leads_or_not : (team : Team) (q : ℕ) (x : List ℕ) → Leads team q x ⊎ ¬ Leads team q x
  leads_or_not team q x = elim (begins_or_not team x) [
    | inr fails ↦ inr (λ h. fails h.0)
    | inl begins ↦ elim (cases_eq (state_after t c.state (operations_of c x)) q) [
      | inl same ↦ inl (begins, same)
      | inr fails ↦ inr (λ h. fails h.1)
    ]
  ]

  pub leaves_or_not : (team : Team) (q : ℕ) → LeavesIn t c team q ⊎ ¬ LeavesIn t c team q
  leaves_or_not team q = elim (order_or_none long (Leads team q) (leads_or_not team q)) [
    | inl h ↦ inl (h.0, h.1, h.2.0, h.2.1)
    | inr none ↦ inr (λ h. none h.0 h.1 (h.2, h.3))
  ]

  abbrev Both : Team → ℕ → ℕ → Type 0
  Both team i j = (i ≢ j) × (slice_get c.marks i ≡ Some team) × (slice_get c.marks j ≡ Some team)

  two_or_not : (team : Team) → HasTwo c team ⊎ ¬ HasTwo c team
  two_or_not team = elim (first_or_all long (λ i. (j : ℕ) → j < long
      → ¬ Both team i j) (HasTwo c team) (λ i l.
      first_or_all long (λ j. ¬ Both team i j) (HasTwo c team) (λ j u. test i j l u))) [
        | inl none ↦ inr (λ h. none h.0 h.3 h.1 h.4 (h.2, h.5, h.6))
        | inr h ↦ inl h
      ]
    where
      test : (i j : ℕ) → i < long → j < long → (¬ Both team i j) ⊎ HasTwo c team
      test i j l u = elim (cases_eq i j) [
        | inl e ↦ inl (λ h. h.0 e)
        | inr d ↦ elim (mark_or_not i team) [
          | inr fails ↦ inl (λ h. fails h.1)
          | inl a ↦ elim (mark_or_not j team) [
            | inr fails ↦ inl (λ h. fails h.2)
            | inl b ↦ inr (
              i,
              j,
              d,
              l,
              u,
              a,
              b,
            )
          ]
        ]
      ]

  -- an order of each team leaves one state
  pub record Meet : Type 0 where
    pub alpha : List ℕ
    pub beta : List ℕ
    pub alpha_order : IsOrder long alpha
    pub beta_order : IsOrder long beta
    pub alpha_in_a : BeginsIn c A alpha
    pub beta_in_b : BeginsIn c B beta
    pub same : state_after t c.state (operations_of c alpha) ≡ state_after t c.state
        (operations_of c beta)

  -- an order of a team leads back to the start state, and the other team has two
  pub record WayBack : Type 0 where
    pub team : Team
    pub order : List ℕ
    pub is_order : IsOrder long order
    pub begins : BeginsIn c team order
    pub back : state_after t c.state (operations_of c order) ≡ c.state
    pub two : HasTwo c (other team)

  abbrev Shared : List ℕ → Type 0
  Shared alpha = BeginsIn c A alpha × LeavesIn t c B (state_after t c.state (operations_of c alpha))

  shared_or_not : (alpha : List ℕ) → Shared alpha ⊎ ¬ Shared alpha
  shared_or_not alpha = elim (begins_or_not A alpha) [
    | inr fails ↦ inr (λ h. fails h.0)
    | inl a ↦ elim (leaves_or_not B (state_after t c.state (operations_of c alpha))) [
      | inl b ↦ inl (a, b)
      | inr fails ↦ inr (λ h. fails h.1)
    ]
  ]

  meet_or_apart : Meet ⊎ ((state : ℕ) → LeavesIn t c A state → ¬ LeavesIn t c B state)
  meet_or_apart = elim (order_or_none long Shared shared_or_not) [
    | inl h ↦ (let left = h.2.1 in inl (record {
      alpha = h.0;
      beta = left.0;
      alpha_order = h.1;
      beta_order = left.1;
      alpha_in_a = h.2.0;
      beta_in_b = left.2;
      same = sym left.3;
    }))
    | inr none ↦ inr (λ state a b. none a.0 a.1 (a.2, subst (LeavesIn t c B) (sym a.3) b))
  ]

  way_back_or_not : (team : Team) → WayBack ⊎ (HasTwo c (other team) → ¬ LeavesIn t c team c.state)
  way_back_or_not team = elim (leaves_or_not team c.state) [
    | inr fails ↦ inr (λ h. fails)
    | inl o ↦ elim (two_or_not (other team)) [
      | inr few ↦ inr (λ h. absurd (few h))
      | inl two ↦ inl (record {
        team = team;
        order = o.0;
        is_order = o.1;
        begins = o.2;
        back =
            o.3;
        two = two;
      })
    ]
  ]

  pub records_or_not : IsRecordingWitness t c ⊎ (Meet ⊎ WayBack)
  records_or_not = elim meet_or_apart [
    | inl m ↦ inr (inl m)
    | inr apart ↦ elim (way_back_or_not A) [
      | inl w ↦ inr (inr w)
      | inr a ↦ elim (way_back_or_not B) [
        | inl w ↦ inr (inr w)
        | inr b ↦ inl (record {
          apart =
              apart;
          no_way_back_a = a;
          no_way_back_b = b;
        })
      ]
    ]
  ]
