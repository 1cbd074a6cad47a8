-- Where operations lead from a set of states.
use Rattle.std.proofs.Common.{◌≡◌, ℕ, ◌+◌, ◌<◌, ◌⊎◌, ◌↔◌, inl, inr, List, length, refl, sym, subst, arith}
use Rattle.std.specs.Prelude.{IsBitSet, slice_index}
use Rattle.std.proofs.lemmas.Bool.{cases_lt}
use Rattle.cn_table.specs.TypeTable.{TypeTable, transition}
use Rattle.cn_choice.specs.declared.team.Team.{Team}
use Rattle.cn_choice.specs.declared.team.Team.TheVariants.{A, B}
use Rattle.cn_unread.specs.Signs.{Leads, Signs, StatesOf}
use Rattle.cn_unread.specs.Signs.Leads.{ByFurther, ByMany, Here}
use Rattle.cn_signs.specs.StateSets.{AreStatesFor, InTeam, LedFrom, StepsTo, unsigned, walks}
use Rattle.cn_signs.specs.declared.sign_choice.SignChoice.{SignChoice}
use Rattle.cn_signs.specs.declared.states.SignStates.{SignStates}

-- only the operations matter
pub same_leads : (t : TypeTable) (v w : Signs) → v.many ≡ w.many → v.further ≡ w.further → (first q : ℕ) → Leads t v first q → Leads t w first q
same_leads t v w e f first q Here = Here
same_leads t v w e f first q (ByMany u l) = subst (λ (o : ℕ). Leads t w first (transition t o u).1) (sym e) (ByMany u (same_leads t v w e f first u l))
same_leads t v w e f first q (ByFurther u i li l) =
    subst (λ (os : List ℕ). Leads t w first (transition t (slice_index os i) u).1) (sym f)
    (ByFurther u i (subst (λ (os : List ℕ). i < length os) f li) (same_leads t v w e f first u l))

module _ (t : TypeTable) (many : ℕ) (further : List ℕ) where
  pub no_step : (set q : ℕ) → StepsTo t many further 0 set q → (p : ℕ) × IsBitSet set p × ((transition t many p).1 ≡ q)
  no_step set q s = (s.0, s.1, by_kind s.2)
    where
      by_kind : ((transition t many s.0).1 ≡ q) ⊎ ((i : ℕ) × (i < 0) × ((transition t (slice_index further i) s.0).1 ≡ q)) → (transition t many s.0).1 ≡ q
      by_kind (inl e) = e
      by_kind (inr h) = absurd (omega (arith, h.1))

  -- the first operation, and one more
  pub first_step : (set image grown : ℕ) → ((q : ℕ) → IsBitSet image q ↔ ((p : ℕ) × IsBitSet set p × ((transition t many p).1 ≡ q)))
      → ((q : ℕ) → IsBitSet grown q ↔ (IsBitSet set q ⊎ IsBitSet image q)) → (q : ℕ) → IsBitSet grown q ↔ (IsBitSet set q ⊎ StepsTo t many further 0 set q)
  first_step set image grown same both q = (
    λ h. elim ((both q).0 h) [ inl s ↦ inl s | inr m ↦ (let r = (same q).0 m in inr (r.0, r.1, inl r.2)) ],
    λ h. (both q).1 (elim h [ inl s ↦ inl s | inr m ↦ inr ((same q).1 (no_step set q m)) ]),
  )

  pub more_steps : (k set image old grown : ℕ) → ((q : ℕ) → IsBitSet image q ↔ ((p : ℕ) × IsBitSet set p × ((transition t (slice_index further k) p).1 ≡ q)))
      → ((q : ℕ) → IsBitSet grown q ↔ (IsBitSet old q ⊎ IsBitSet image q)) → ((q : ℕ) → IsBitSet old q ↔ (IsBitSet set q ⊎ StepsTo t many further k set q))
      → (q : ℕ) → IsBitSet grown q ↔ (IsBitSet set q ⊎ StepsTo t many further (k + 1) set q)
  more_steps k set image old grown same both so_far q = (
    λ h. elim ((both q).0 h) [
      | inl o ↦ elim ((so_far q).0 o) [ inl s ↦ inl s | inr m ↦ inr (m.0, m.1, further_on m.0 m.2) ]
      | inr n ↦ (let r = (same q).0 n in inr (r.0, r.1, inr (k, omega arith, r.2)))
    ],
    λ h. elim h [ inl s ↦ (both q).1 (inl ((so_far q).1 (inl s))) | inr m ↦ back m.0 m.1 m.2 ],
  )
    where
      further_on : (p : ℕ) → ((transition t many p).1 ≡ q) ⊎ ((i : ℕ) × (i < k) × ((transition t (slice_index further i) p).1 ≡ q))
          → ((transition t many p).1 ≡ q) ⊎ ((i : ℕ) × (i < k + 1) × ((transition t (slice_index further i) p).1 ≡ q))
      further_on p (inl e) = inl e
      further_on p (inr h) = inr (h.0, omega (arith, h.1), h.2)

      back : (p : ℕ) → IsBitSet set p → ((transition t many p).1 ≡ q) ⊎ ((i : ℕ) × (i < k + 1) × ((transition t (slice_index further i) p).1 ≡ q)) → IsBitSet grown q
      back p there (inl e) = (both q).1 (inl ((so_far q).1 (inr (p, there, inl e))))
      back p there (inr h) = elim (cases_lt h.0 k) [
        | inl less ↦ (both q).1 (inl ((so_far q).1 (inr (p, there, inr (h.0, less, h.2)))))
        | inr above ↦
            (let e : h.0 ≡ k = omega (arith, above, h.1) in (both q).1 (inr ((same q).1 (p, there, subst (λ (i : ℕ). (transition t (slice_index further i) p).1 ≡ q) e h.2))))
      ]

  pub led_on : (from set q : ℕ) → ((p : ℕ) → IsBitSet set p → LedFrom t many further from p) → StepsTo t many further (length further) set q → LedFrom t many further from q
  led_on from set q led s = (let l = led s.0 s.1 in (l.0, l.1, by_kind l.0 l.2 s.2))
    where
      by_kind : (p : ℕ) → Leads t (walks many further) p s.0
          → ((transition t many s.0).1 ≡ q) ⊎ ((i : ℕ) × (i < length further) × ((transition t (slice_index further i) s.0).1 ≡ q)) → Leads t (walks many further) p q
      by_kind p l (inl e) = subst (Leads t (walks many further) p) e (ByMany s.0 l)
      by_kind p l (inr h) = subst (Leads t (walks many further) p) h.2 (ByFurther s.0 h.0 h.1 l)

  -- what the operations keep has all to which they lead
  all_led : (set : ℕ) → ((q : ℕ) → StepsTo t many further (length further) set q → IsBitSet set q) → (p q : ℕ) → IsBitSet set p → Leads t (walks many further) p q → IsBitSet set q
  all_led set closed p q h Here = h
  all_led set closed p q h (ByMany u l) = closed (transition t many u).1 (u, all_led set closed p u h l, inl refl)
  all_led set closed p q h (ByFurther u i li l) = closed (transition t (slice_index further i) u).1 (u, all_led set closed p u h l, inr (i, li, refl))

  pub led_exact : (from set next : ℕ) → ((q : ℕ) → IsBitSet from q → IsBitSet set q) → ((q : ℕ) → IsBitSet set q → LedFrom t many further from q)
      → ((q : ℕ) → IsBitSet next q ↔ (IsBitSet set q ⊎ StepsTo t many further (length further) set q)) → next ≡ set → (q : ℕ) → IsBitSet set q ↔ LedFrom t many further from q
  led_exact from set next has led grown same q = (
    led q,
    λ l. all_led set (λ u s. subst (λ (n : ℕ). IsBitSet n u) same ((grown u).1 (inr s))) l.0 q (has l.0 l.1) l.2,
  )

  -- after a first move from the start state, and after one from any state of a set
  after_first : (first state start from all : ℕ) → ((q : ℕ) → IsBitSet start q ↔ (q ≡ state))
      → ((q : ℕ) → IsBitSet from q ↔ ((p : ℕ) × IsBitSet start p × ((transition t first p).1 ≡ q))) → ((q : ℕ) → IsBitSet all q ↔ LedFrom t many further from q)
      → (q : ℕ) → IsBitSet all q ↔ Leads t (walks many further) (transition t first state).1 q
  after_first first state start from all one image led q = (
    λ h.
        let l = (led q).0 h in
        let f = (image l.0).0 l.1 in
        subst (λ (p : ℕ). Leads t (walks many further) (transition t first p).1 q) ((one f.0).0 f.1) (subst (λ (p : ℕ). Leads t (walks many further) p q) (sym f.2) l.2),
    λ l. (led q).1 ((transition t first state).1, (image (transition t first state).1).1 (state, (one state).1 refl, refl), l),
  )

  after_set : (first before from all : ℕ) → ((q : ℕ) → IsBitSet from q ↔ ((p : ℕ) × IsBitSet before p × ((transition t first p).1 ≡ q)))
      → ((q : ℕ) → IsBitSet all q ↔ LedFrom t many further from q) → (q : ℕ) → IsBitSet all q ↔ ((u : ℕ) × IsBitSet before u × Leads t (walks many further) (transition t first u).1 q)
  after_set first before from all image led q = (
    λ h.
        let l = (led q).0 h in
        let f = (image l.0).0 l.1 in
        (f.0, f.1, subst (λ (p : ℕ). Leads t (walks many further) p q) (sym f.2) l.2),
    λ l. (led q).1 ((transition t first l.0).1, (image (transition t first l.0).1).1 (l.0, l.1, refl), l.2),
  )

-- the sets of a choice
pub states_for : (t : TypeTable) (c : SignChoice) (further : List ℕ) → further ≡ c.further.items → (start after_single after_many then_single : ℕ) (s : SignStates)
    → ((q : ℕ) → IsBitSet start q ↔ (q ≡ c.state.0))
    → ((q : ℕ) → IsBitSet after_single q ↔ ((p : ℕ) × IsBitSet start p × ((transition t c.single.0 p).1 ≡ q)))
    → ((q : ℕ) → IsBitSet after_many q ↔ ((p : ℕ) × IsBitSet start p × ((transition t c.many.0 p).1 ≡ q)))
    → ((q : ℕ) → IsBitSet then_single q ↔ ((p : ℕ) × IsBitSet s.many_first p × ((transition t c.single.0 p).1 ≡ q)))
    → ((q : ℕ) → IsBitSet s.single_first q ↔ LedFrom t c.many.0 further after_single q)
    → ((q : ℕ) → IsBitSet s.many_first q ↔ LedFrom t c.many.0 further after_many q)
    → ((q : ℕ) → IsBitSet s.single_later q ↔ LedFrom t c.many.0 further then_single q) → AreStatesFor t c s
states_for t c further e start after_single after_many then_single s one by_single by_many by_later single_led many_led later_led = by_team
  where
    there : (first q : ℕ) → Leads t (walks c.many.0 further) first q → Leads t (unsigned c) first q
    there = same_leads t (walks c.many.0 further) (unsigned c) refl e

    back : (first q : ℕ) → Leads t (unsigned c) first q → Leads t (walks c.many.0 further) first q
    back = same_leads t (unsigned c) (walks c.many.0 further) refl (sym e)

    singles : (q : ℕ) → IsBitSet s.single_first q ↔ Leads t (walks c.many.0 further) (transition t c.single.0 c.state.0).1 q
    singles = after_first t c.many.0 further c.single.0 c.state.0 start after_single s.single_first one by_single single_led

    others : (q : ℕ) → IsBitSet s.many_first q ↔ Leads t (walks c.many.0 further) (transition t c.many.0 c.state.0).1 q
    others = after_first t c.many.0 further c.many.0 c.state.0 start after_many s.many_first one by_many many_led

    laters : (q : ℕ) → IsBitSet s.single_later q ↔ ((u : ℕ) × IsBitSet s.many_first u × Leads t (walks c.many.0 further) (transition t c.single.0 u).1 q)
    laters = after_set t c.many.0 further c.single.0 s.many_first then_single s.single_later by_later later_led

    by_team : (team : Team) (q : ℕ) → InTeam s team q ↔ StatesOf t (unsigned c) team q
    by_team A q = (λ h. there (transition t c.single.0 c.state.0).1 q ((singles q).0 h), λ l. (singles q).1 (back (transition t c.single.0 c.state.0).1 q l))
    by_team B q = (
      λ h. elim h [
        | inl m ↦ inl (there (transition t c.many.0 c.state.0).1 q ((others q).0 m))
        | inr m ↦ (
            let r = (laters q).0 m in
            inr (r.0, there (transition t c.many.0 c.state.0).1 r.0 ((others r.0).0 r.1), there (transition t c.single.0 r.0).1 q r.2)
            )
      ],
      λ l. elim l [
        | inl m ↦ inl ((others q).1 (back (transition t c.many.0 c.state.0).1 q m))
        | inr m ↦ inr ((laters q).1 (m.0, (others m.0).1 (back (transition t c.many.0 c.state.0).1 m.0 m.1), back (transition t c.single.0 m.0).1 q m.2))
      ],
    )

-- numbers and signs do not matter for where operations lead
pub same_states : (t : TypeTable) (v w : Signs) → v.state ≡ w.state → v.single ≡ w.single → v.many ≡ w.many → v.further ≡ w.further → (team : Team) (q : ℕ)
    → StatesOf t v team q → StatesOf t w team q
same_states t v w e f g h A q l =
    subst (λ (o : ℕ). Leads t w (transition t o w.state).1 q) f (subst (λ (s : ℕ). Leads t w (transition t v.single s).1 q) e (same_leads t v w g h (transition t v.single v.state).1 q l))
same_states t v w e f g h B q l = elim l [
  | inl m ↦ inl (begin q m)
  | inr m ↦ inr (m.0, begin m.0 m.1, subst (λ (o : ℕ). Leads t w (transition t o m.0).1 q) f (same_leads t v w g h (transition t v.single m.0).1 q m.2))
]
  where
    begin : (p : ℕ) → Leads t v (transition t v.many v.state).1 p → Leads t w (transition t w.many w.state).1 p
    begin p k = subst (λ (o : ℕ). Leads t w (transition t o w.state).1 p) g (subst (λ (s : ℕ). Leads t w (transition t v.many s).1 p) e (same_leads t v w g h (transition t v.many v.state).1 p k))
