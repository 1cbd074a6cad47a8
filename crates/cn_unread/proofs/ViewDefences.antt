-- Views that tell the teams apart are a defence: each process does its operation in both runs, and
-- then the silent operation that it looks by.
use Rattle.std.proofs.Common.{◌≡◌, ◌≢◌, ℕ, zero, suc, ◌+◌, ◌<◌, ◌≤◌, inl, inr, List, [], ◌∷◌, ◌++◌, length}
use Rattle.std.proofs.Common.{refl, sym, ap, ◌∙◌, subst, arith, Bool, cond, nat_eq, Option, Some, None}
use Rattle.std.specs.Prelude.{slice_get, slice_index}
use Rattle.std.specs.Option.{option_map}
use Rattle.std.specs.List.{AllByRecursion}
use Rattle.std.proofs.lemmas.Bool.{cases_eq, eq-eqb, ne_eqb}
use Rattle.std.proofs.lemmas.List.Elements.{All-from_recursion, All-push}
use Rattle.cn_table.specs.Run.{responses_along, state_after}
use Rattle.cn_table.specs.TypeTable.{IsClosed, TypeTable, transition}
use Rattle.cn_choice.specs.declared.team.Team.{Team}
use Rattle.cn_choice.specs.declared.team.Team.TheVariants.{A, B}
use Rattle.cn_choice.specs.Orders.{IsOrder}
use Rattle.cn_choice.specs.OutcomeSets.{BeginsIn, InOutcomeSet, operations_of, response_of}
use Rattle.cn_choice.specs.RawChoices.{IsRawChoice, RawChoice}
use Rattle.cn_choice.proofs.ListLemmas.Arrangements.{Differ}
use Rattle.cn_choice.proofs.OrderLemmas.AllOrders.{differ_from, distinct_from}
use Rattle.cn_choice.proofs.OrderLemmas.Walks.{pair_of-response_of}
use Rattle.cn_unread.specs.Functions.{put}
use Rattle.cn_unread.proofs.Functions.{put-other, put-same}
use Rattle.cn_unread.specs.Defended.{EachMove, HoldsWithin, IsDefended, IsDefendedFor, Position}
use Rattle.cn_unread.specs.Defended.{Status, moved_first, moved_second, start}
use Rattle.cn_unread.specs.Defended.Status.{AheadInFirst, AheadInSecond, Lost, Poised}
use Rattle.cn_unread.specs.Undisturbed.{answer, last_state}
use Rattle.cn_unread.specs.Views.{IsLook, IsViewDiscerning, IsViewWitness, view}
use Rattle.cn_unread.proofs.Outcomes.{outcome_known}

-- ---- sums

-- the sum of f below n
-- the same as total of cn_consensus
abbrev total : (ℕ → ℕ) → ℕ → ℕ
total f zero = 0
total f (suc n) = total f n + f n

-- the same as the private total-most of cn_consensus
total-most : (f g : ℕ → ℕ) (n : ℕ) → ((p : ℕ) → f p ≤ g p) → total f n ≤ total g n
total-most f g zero h = omega arith
total-most f g (suc n) h = omega (arith, total-most f g n h, h n)

-- the same as total_falls of cn_consensus
total_falls : (f g : ℕ → ℕ) (p n : ℕ) → p < n → ((q : ℕ) → f q ≤ g q) → f p < g p
    → total f n < total g n
total_falls f g p zero l h less = absurd (omega arith)
total_falls f g p (suc n) l h less = elim (cases_eq p n) [
  | inl e ↦ omega (arith, total-most f g n h, subst (λ (q : ℕ). f q < g q) e less)
  | inr d ↦ omega (arith, total_falls f g p n (omega arith) h less, h n)
]

put_falls : (f : ℕ → ℕ) (j k n : ℕ) → j < n → k < f j → total (put f j k) n < total f n
put_falls f j k n l less = total_falls (put f j k) f j n l most (omega (arith, put-same f j k, less))
  where
    most : (q : ℕ) → put f j k q ≤ f q
    most q = elim (cases_eq q j) [
      | inl e ↦ subst (λ (i : ℕ). put f j k i ≤ f i) (sym e) (omega (arith, put-same f j k, less))
      | inr d ↦ omega (arith, put-other f j k q d)
    ]

-- ---- one process more at the end of an order

module _ (t : TypeTable) (c : RawChoice) where
  abbrev op : ℕ → ℕ
  op i = slice_index c.operations i

  abbrev n : ℕ
  n = length c.operations

  -- the response to i in this order from state s
  abbrev response : ℕ → List ℕ → ℕ → Option ℕ
  response s order i = response_of i order (responses_along t s (operations_of c order))

  last_push : (order : List ℕ) (s j : ℕ) → state_after t s (operations_of c (order ++ j ∷ []))
      ≡ (transition t (op j) (state_after t s (operations_of c order))).1
  last_push [] s j = refl
  last_push (p ∷ order) s j = last_push order (transition t (op p) s).1 j

  own_push : (order : List ℕ) (s j : ℕ) → response s order j ≡ None
      → response s (order ++ j ∷ []) j
      ≡ Some (transition t (op j) (state_after t s (operations_of c order))).0
  own_push [] s j e = ap (λ (b : Bool). cond b (Some (transition t (op j) s).0) None) (eq-eqb j j refl)
  own_push (p ∷ order) s j e = elim (cases_eq p j) [
    | inl same ↦ absurd (some_none (sym (ap (λ (b : Bool). cond b (Some (transition t (op p) s).0)
        (response (transition t (op p) s).1 order j)) (eq-eqb p j same)) ∙ e))
    | inr apart ↦ ap (λ (b : Bool). cond b (Some (transition t (op p) s).0)
        (response (transition t (op p) s).1 (order ++ j ∷ []) j)) (ne_eqb p j apart)
        ∙ own_push order (transition t (op p) s).1 j
        (sym (ap (λ (b : Bool). cond b (Some (transition t (op p) s).0)
        (response (transition t (op p) s).1 order j)) (ne_eqb p j apart)) ∙ e)
  ]
    where
      some_none : {r : ℕ} → Some r ≡ None → ⊥
      some_none e = absurd (cc e)

  other_push : (order : List ℕ) (s j i : ℕ) → i ≢ j
      → response s (order ++ j ∷ []) i ≡ response s order i
  other_push [] s j i d = ap (λ (b : Bool). cond b (Some (transition t (op j) s).0) None)
      (ne_eqb j i (λ e. d (sym e)))
  other_push (p ∷ order) s j i d = ap (cond (nat_eq p i) (Some (transition t (op p) s).0))
      (other_push order (transition t (op p) s).1 j i d)

  not_in : (order : List ℕ) (s j : ℕ) → response s order j ≡ None
      → AllByRecursion (λ x. x ≢ j) order
  not_in [] s j e = tt
  not_in (p ∷ order) s j e = elim (cases_eq p j) [
    | inl same ↦ absurd (some_none (sym (ap (λ (b : Bool). cond b (Some (transition t (op p) s).0)
        (response (transition t (op p) s).1 order j)) (eq-eqb p j same)) ∙ e))
    | inr apart ↦ (
      apart,
      not_in order (transition t (op p) s).1 j
          (sym (ap (λ (b : Bool). cond b (Some (transition t (op p) s).0)
          (response (transition t (op p) s).1 order j)) (ne_eqb p j apart)) ∙ e),
    )
  ]
    where
      some_none : {r : ℕ} → Some r ≡ None → ⊥
      some_none e = absurd (cc e)

  each_push : (P : ℕ → Type 0) (order : List ℕ) (j : ℕ) → AllByRecursion P order → P j
      → AllByRecursion P (order ++ j ∷ [])
  each_push P [] j h l = (l, tt)
  each_push P (p ∷ order) j h l = (h.0, each_push P order j h.1 l)

  differ_push : (order : List ℕ) (j : ℕ) → Differ order → AllByRecursion (λ x. x ≢ j) order
      → Differ (order ++ j ∷ [])
  differ_push [] j d h = (tt, tt)
  differ_push (p ∷ order) j d h =
      (each_push (λ y. p ≢ y) order j d.0 h.0, differ_push order j d.1 h.1)

  -- an order that begins in the team and leaves this state
  record Ran (side : Team) (q : ℕ) (order : List ℕ) : Type 0 where
    pub is : IsOrder n order
    pub begins : BeginsIn c side order
    pub last : last_state t c order ≡ q

  pushed : (side : Team) (q : ℕ) (order : List ℕ) (j : ℕ) → Ran side q order → j < n
      → answer t c order j ≡ None → Ran side (transition t (op j) q).1 (order ++ j ∷ [])
  pushed side q order j r l e = record {
    is = record {
      someone = some order;
      known = All-push (λ p. p < n) order j r.is.known l;
      distinct = distinct_from (order ++ j ∷ []) (differ_push order j
          (differ_from order r.is.distinct) (not_in order c.state j e));
    };
    begins = (r.begins.0, first order r.begins.1, r.begins.2);
    last = last_push order c.state j ∙ ap (λ (s : ℕ). (transition t (op j) s).1) r.last;
  }
    where
      some : (order : List ℕ) → order ++ j ∷ [] ≢ []
      some [] f = absurd (cc f)
      some (p ∷ order) f = absurd (cc f)

      first : (order : List ℕ) → slice_get order 0 ≡ Some r.begins.0
          → slice_get (order ++ j ∷ []) 0 ≡ Some r.begins.0
      first [] f = absurd (cc f)
      first (p ∷ order) f = f

  outcome : (side : Team) (q : ℕ) (order : List ℕ) (j r : ℕ) → Ran side q order
      → answer t c order j ≡ Some r → InOutcomeSet t c side j (r, q)
  outcome side q order j r ran e = (
    order,
    ran.is,
    ran.begins,
    pair_of-response_of t c order j
        ∙ (ap (option_map (λ x. let p : ℕ × ℕ = (x, last_state t c order) in p)) e
        ∙ ap (λ (s : ℕ). let p : ℕ × ℕ = (r, s) in Some p) ran.last),
  )

  -- ---- what the status of a process is, by its responses in the two runs, and a number that falls

  module _ (closed : IsClosed t) (is : IsRawChoice t n c) (look : ℕ → ℕ → Option ℕ)
      (is_look : IsLook t look) (w : IsViewWitness t look c) where
    data Looks (j r u : ℕ) : Status → ℕ → Type 0 where
      Gone : Looks j r u Lost 0
      About : (v : ℕ) → r ≡ u → look (op j) r ≡ Some v → Looks j r u (Poised v) 2
      SeenFirst : (v x p : ℕ) → r ≡ u → look (op j) r ≡ Some v → InOutcomeSet t c A j (r, p)
          → x ≡ (transition t v p).0 → Looks j r u (AheadInFirst v x) 1
      SeenSecond : (v x q : ℕ) → r ≡ u → look (op j) r ≡ Some v → InOutcomeSet t c B j (u, q)
          → x ≡ (transition t v q).0 → Looks j r u (AheadInSecond v x) 1

    abbrev Fits : ℕ → Option ℕ → Option ℕ → Status → ℕ → Type 0
    Fits j None None s k = (s ≡ Poised (op j)) × (k ≡ 4)
    Fits j (Some r) None s k = (s ≡ AheadInFirst (op j) r) × (k ≡ 3)
    Fits j None (Some r) s k = (s ≡ AheadInSecond (op j) r) × (k ≡ 3)
    Fits j (Some r) (Some u) s k = Looks j r u s k

    -- the fit of one process is new, and that of the others stays
    refit : (f g h k : ℕ → Option ℕ) (s : ℕ → Status) (left : ℕ → ℕ) (j : ℕ) (new : Status) (m : ℕ)
        → ((i : ℕ) → i ≢ j → h i ≡ f i) → ((i : ℕ) → i ≢ j → k i ≡ g i)
        → Fits j (h j) (k j) new m → ((i : ℕ) → i < n → Fits i (f i) (g i) (s i) (left i))
        → (i : ℕ) → i < n → Fits i (h i) (k i) (put s j new i) (put left j m i)
    refit f g h k s left j new m x y here others i l = elim (cases_eq i j) [
      | inl e ↦ subst (λ (z : ℕ). Fits z (h z) (k z) (put s j new z) (put left j m z)) (sym e)
          (subst (λ (z : Status). Fits j (h j) (k j) z (put left j m j)) (sym (put-same s j new))
          (subst (Fits j (h j) (k j) new) (sym (put-same left j m)) here))
      | inr d ↦ subst (λ (o : Option ℕ). Fits i o (k i) (put s j new i) (put left j m i))
          (sym (x i d))
          (subst (λ (o : Option ℕ). Fits i (f i) o (put s j new i) (put left j m i)) (sym (y i d))
          (subst (λ (z : Status). Fits i (f i) (g i) z (put left j m i))
          (sym (put-other s j new i d))
          (subst (Fits i (f i) (g i) (s i)) (sym (put-other left j m i d)) (others i l))))
    ]

    -- with one response in both runs, and one view in both, there is no witness
    clash : (j r u p q v : ℕ) → r ≡ u → look (op j) r ≡ Some v → InOutcomeSet t c A j (r, p)
        → InOutcomeSet t c B j (u, q) → (transition t v p).0 ≡ (transition t v q).0 → ⊥
    clash j r u p q v e l a b same =
        w j r p q a (subst (λ (x : ℕ). InOutcomeSet t c B j (x, q)) (sym e) b)
        (subst (λ (o : Option ℕ). view t o p ≡ view t o q) (sym l) same)

    blank : (j r u p q : ℕ) → r ≡ u → look (op j) r ≡ None → InOutcomeSet t c A j (r, p)
        → InOutcomeSet t c B j (u, q) → ⊥
    blank j r u p q e l a b =
        w j r p q a (subst (λ (x : ℕ). InOutcomeSet t c B j (x, q)) (sym e) b)
        (subst (λ (o : Option ℕ). view t o p ≡ view t o q) (sym l) refl)

    AllHold : ℕ → Type 0
    AllHold k = (x : Position) (left : ℕ → ℕ) (alpha beta : List ℕ) → Ran A x.first alpha
        → Ran B x.second beta
        → ((i : ℕ) → i < n → Fits i (answer t c alpha i) (answer t c beta i) (x.status i) (left i))
        → total left n < k → HoldsWithin t n k x

    module _ (k : ℕ) (hold : AllHold k) (x : Position) (left : ℕ → ℕ) (alpha beta : List ℕ)
        (a : Ran A x.first alpha) (b : Ran B x.second beta)
        (fits : (i : ℕ) → i < n
        → Fits i (answer t c alpha i) (answer t c beta i) (x.status i) (left i))
        (few : total left n < suc k) (j : ℕ) (lj : j < n) where
      fewer : (m : ℕ) → m < left j → total (put left j m) n < k
      fewer m l = omega (arith, put_falls left j m n lj l, few)

      -- process j does its operation in the first run, or in the second
      go_first : (new : Status) (m : ℕ) → answer t c alpha j ≡ None → m < left j
          → Fits j (Some (transition t (op j) x.first).0) (answer t c beta j) new m
          → HoldsWithin t n k (moved_first t x j (op j) new)
      unfolding AllHold
      go_first new m e l fit = hold (moved_first t x j (op j) new) (put left j m) (alpha ++ j ∷ []) beta
          (pushed A x.first alpha j a lj e) b
          (refit (answer t c alpha) (answer t c beta) (answer t c (alpha ++ j ∷ []))
          (answer t c beta) x.status left j new m (λ i d. other_push alpha c.state j i d) (λ i d. refl)
          (subst (λ (o : Option ℕ). Fits j o (answer t c beta j) new m) (sym own) fit) fits)
          (fewer m l)
        where
          own : answer t c (alpha ++ j ∷ []) j ≡ Some (transition t (op j) x.first).0
          own = own_push alpha c.state j e
              ∙ ap (λ (s : ℕ). Some (transition t (op j) s).0) a.last

      go_second : (new : Status) (m : ℕ) → answer t c beta j ≡ None → m < left j
          → Fits j (answer t c alpha j) (Some (transition t (op j) x.second).0) new m
          → HoldsWithin t n k (moved_second t x j (op j) new)
      unfolding AllHold
      go_second new m e l fit = hold (moved_second t x j (op j) new) (put left j m) alpha
          (beta ++ j ∷ []) a (pushed B x.second beta j b lj e)
          (refit (answer t c alpha) (answer t c beta) (answer t c alpha)
          (answer t c (beta ++ j ∷ [])) x.status left j new m (λ i d. refl)
          (λ i d. other_push beta c.state j i d)
          (subst (λ (o : Option ℕ). Fits j (answer t c alpha j) o new m) (sym own) fit) fits)
          (fewer m l)
        where
          own : answer t c (beta ++ j ∷ []) j ≡ Some (transition t (op j) x.second).0
          own = own_push beta c.state j e
              ∙ ap (λ (s : ℕ). Some (transition t (op j) s).0) b.last

      -- process j looks in the first run, or in the second
      look_first : (v : ℕ) (new : Status) (m : ℕ) → (transition t v x.first).1 ≡ x.first
          → m < left j → Fits j (answer t c alpha j) (answer t c beta j) new m
          → HoldsWithin t n k (moved_first t x j v new)
      unfolding AllHold
      look_first v new m still l fit = hold (moved_first t x j v new) (put left j m) alpha beta
          (record { is = a.is; begins = a.begins; last = a.last ∙ sym still }) b
          (refit (answer t c alpha) (answer t c beta) (answer t c alpha) (answer t c beta) x.status
          left j new m (λ i d. refl) (λ i d. refl) fit fits) (fewer m l)

      look_second : (v : ℕ) (new : Status) (m : ℕ) → (transition t v x.second).1 ≡ x.second
          → m < left j → Fits j (answer t c alpha j) (answer t c beta j) new m
          → HoldsWithin t n k (moved_second t x j v new)
      unfolding AllHold
      look_second v new m still l fit = hold (moved_second t x j v new) (put left j m) alpha beta a
          (record { is = b.is; begins = b.begins; last = b.last ∙ sym still })
          (refit (answer t c alpha) (answer t c beta) (answer t c alpha) (answer t c beta) x.status
          left j new m (λ i d. refl) (λ i d. refl) fit fits) (fewer m l)

      known_first : (r : ℕ) → answer t c alpha j ≡ Some r → x.first < length t.states
      known_first r e = outcome_known t closed n c is A j (r, x.first)
          (outcome A x.first alpha j r a e)

      known_second : (r : ℕ) → answer t c beta j ≡ Some r → x.second < length t.states
      known_second r e = outcome_known t closed n c is B j (r, x.second)
          (outcome B x.second beta j r b e)

      -- the second of its two moves: it looks next, or is lost
      then_second : (r : ℕ) → answer t c alpha j ≡ Some r → answer t c beta j ≡ None → 2 < left j
          → EachMove t (HoldsWithin t n k) x j (AheadInFirst (op j) r)
      then_second r e f l = (
        λ same. by_look same (look (op j) r) refl,
        λ apart. go_second Lost 0 f (omega (arith, l))
            (subst (λ (o : Option ℕ). Fits j o (Some (transition t (op j) x.second).0) Lost 0) (sym e)
            Gone),
      )
        where
          seen : InOutcomeSet t c B j ((transition t (op j) x.second).0, (transition t (op j) x.second).1)
          seen = outcome B (transition t (op j) x.second).1 (beta ++ j ∷ []) j
              (transition t (op j) x.second).0 (pushed B x.second beta j b lj f)
              (own_push beta c.state j f ∙ ap (λ (s : ℕ). Some (transition t (op j) s).0) b.last)

          by_look : (transition t (op j) x.second).0 ≡ r → (o : Option ℕ) → look (op j) r ≡ o
              → (m : ℕ) × (m < length t.operations)
              × HoldsWithin t n k (moved_second t x j (op j) (Poised m))
          by_look same None g = absurd (blank j r (transition t (op j) x.second).0 x.first
              (transition t (op j) x.second).1 (sym same) g (outcome A x.first alpha j r a e) seen)
          by_look same (Some v) g = (
            v,
            (is_look (op j) r v g).known,
            go_second (Poised v) 2 f l (subst (λ (o : Option ℕ).
                Fits j o (Some (transition t (op j) x.second).0) (Poised v) 2) (sym e)
                (About v (sym same) g)),
          )

      then_first : (r : ℕ) → answer t c alpha j ≡ None → answer t c beta j ≡ Some r → 2 < left j
          → EachMove t (HoldsWithin t n k) x j (AheadInSecond (op j) r)
      then_first r e f l = (
        λ same. by_look same (look (op j) (transition t (op j) x.first).0) refl,
        λ apart. go_first Lost 0 e (omega (arith, l))
            (subst (λ (o : Option ℕ). Fits j (Some (transition t (op j) x.first).0) o Lost 0) (sym f)
            Gone),
      )
        where
          seen : InOutcomeSet t c A j ((transition t (op j) x.first).0, (transition t (op j) x.first).1)
          seen = outcome A (transition t (op j) x.first).1 (alpha ++ j ∷ []) j
              (transition t (op j) x.first).0 (pushed A x.first alpha j a lj e)
              (own_push alpha c.state j e ∙ ap (λ (s : ℕ). Some (transition t (op j) s).0) a.last)

          by_look : (transition t (op j) x.first).0 ≡ r → (o : Option ℕ)
              → look (op j) (transition t (op j) x.first).0 ≡ o → (m : ℕ) × (m < length t.operations)
              × HoldsWithin t n k (moved_first t x j (op j) (Poised m))
          by_look same None g = absurd (blank j (transition t (op j) x.first).0 r
              (transition t (op j) x.first).1 x.second same g seen (outcome B x.second beta j r b f))
          by_look same (Some v) g = (
            v,
            (is_look (op j) (transition t (op j) x.first).0 v g).known,
            go_first (Poised v) 2 e l (subst (λ (o : Option ℕ).
                Fits j (Some (transition t (op j) x.first).0) o (Poised v) 2) (sym f)
                (About v same g)),
          )

      -- it looks
      then_look : (r u : ℕ) → answer t c alpha j ≡ Some r → answer t c beta j ≡ Some u → (s : Status)
          → (m : ℕ) → Looks j r u s m → m ≡ left j → EachMove t (HoldsWithin t n k) x j s
      then_look r u e f s m Gone l = tt
      then_look r u e f s m (About v same g) l = (
        look_first v (AheadInFirst v (transition t v x.first).0) 1
            ((is_look (op j) r v g).same_state x.first (known_first r e)) (omega (arith, l))
            (fit (AheadInFirst v (transition t v x.first).0)
            (SeenFirst v (transition t v x.first).0 x.first same g
            (outcome A x.first alpha j r a e) refl)),
        look_second v (AheadInSecond v (transition t v x.second).0) 1
            ((is_look (op j) r v g).same_state x.second (known_second u f)) (omega (arith, l))
            (fit (AheadInSecond v (transition t v x.second).0)
            (SeenSecond v (transition t v x.second).0 x.second same g
            (outcome B x.second beta j u b f) refl)),
      )
        where
          fit : (new : Status) → Looks j r u new 1
              → Fits j (answer t c alpha j) (answer t c beta j) new 1
          fit new h = subst (λ (o : Option ℕ). Fits j o (answer t c beta j) new 1) (sym e)
              (subst (λ (o : Option ℕ). Fits j (Some r) o new 1) (sym f) h)
      then_look r u e f s m (SeenFirst v y p same g seen told) l = (
        λ back. absurd (clash j r u p x.second v same g seen (outcome B x.second beta j u b f)
            (sym told ∙ sym back)),
        λ apart. look_second v Lost 0 ((is_look (op j) r v g).same_state x.second (known_second u f))
            (omega (arith, l)) (fit Gone),
      )
        where
          fit : Looks j r u Lost 0 → Fits j (answer t c alpha j) (answer t c beta j) Lost 0
          fit h = subst (λ (o : Option ℕ). Fits j o (answer t c beta j) Lost 0) (sym e)
              (subst (λ (o : Option ℕ). Fits j (Some r) o Lost 0) (sym f) h)
      then_look r u e f s m (SeenSecond v y q same g seen told) l = (
        λ back. absurd (clash j r u x.first q v same g (outcome A x.first alpha j r a e) seen
            (back ∙ told)),
        λ apart. look_first v Lost 0 ((is_look (op j) r v g).same_state x.first (known_first r e))
            (omega (arith, l)) (fit Gone),
      )
        where
          fit : Looks j r u Lost 0 → Fits j (answer t c alpha j) (answer t c beta j) Lost 0
          fit h = subst (λ (o : Option ℕ). Fits j o (answer t c beta j) Lost 0) (sym e)
              (subst (λ (o : Option ℕ). Fits j (Some r) o Lost 0) (sym f) h)

      each_move : (f g : Option ℕ) → answer t c alpha j ≡ f → answer t c beta j ≡ g
          → Fits j f g (x.status j) (left j) → EachMove t (HoldsWithin t n k) x j (x.status j)
      each_move None None e f h = subst (EachMove t (HoldsWithin t n k) x j) (sym h.0) (
        go_first (AheadInFirst (op j) (transition t (op j) x.first).0) 3 e (omega (arith, h.1))
            (subst (λ (o : Option ℕ). Fits j (Some (transition t (op j) x.first).0) o
            (AheadInFirst (op j) (transition t (op j) x.first).0) 3) (sym f) (refl, refl)),
        go_second (AheadInSecond (op j) (transition t (op j) x.second).0) 3 f (omega (arith, h.1))
            (subst (λ (o : Option ℕ). Fits j o (Some (transition t (op j) x.second).0)
            (AheadInSecond (op j) (transition t (op j) x.second).0) 3) (sym e) (refl, refl)),
      )
      each_move (Some r) None e f h = subst (EachMove t (HoldsWithin t n k) x j) (sym h.0)
          (then_second r e f (omega (arith, h.1)))
      each_move None (Some r) e f h = subst (EachMove t (HoldsWithin t n k) x j) (sym h.0)
          (then_first r e f (omega (arith, h.1)))
      each_move (Some r) (Some u) e f h = then_look r u e f (x.status j) (left j) h refl

    all_hold : (k : ℕ) → AllHold k
    unfolding AllHold
    all_hold zero x left alpha beta a b fits few = absurd (omega (arith, few))
    all_hold (suc k) x left alpha beta a b fits few = λ j lj.
        each_move k (all_hold k) x left alpha beta a b fits few j lj (answer t c alpha j)
        (answer t c beta j) refl refl (fits j lj)

    -- ---- the start

    alone : (side : Team) (i : ℕ) → i < n → slice_get c.marks i ≡ Some side
        → Ran side (transition t (op i) c.state).1 (i ∷ [])
    alone side i l mark = record {
      is = record {
        someone = λ e. absurd (cc e);
        known = All-from_recursion (λ p. p < n) (i ∷ []) (l, tt);
        distinct = distinct_from (i ∷ []) (tt, tt);
      };
      begins = (i, refl, mark);
      last = refl;
    }

    answer_own : (i : ℕ) → answer t c (i ∷ []) i ≡ Some (transition t (op i) c.state).0
    answer_own i = ap (λ (b : Bool). cond b (Some (transition t (op i) c.state).0) None)
        (eq-eqb i i refl)

    answer_other : (i j : ℕ) → i ≢ j → answer t c (i ∷ []) j ≡ None
    answer_other i j d = ap (λ (b : Bool). cond b (Some (transition t (op i) c.state).0) None)
        (ne_eqb i j d)

    module _ (a b : ℕ) (la : a < n) (lb : b < n) (in_a : slice_get c.marks a ≡ Some A)
        (in_b : slice_get c.marks b ≡ Some B) where
      apart : a ≢ b
      apart e = differ (sym in_a ∙ (ap (slice_get c.marks) e ∙ in_b))
        where
          differ : Some A ≡ Some B → ⊥
          differ s = absurd (cc s)

      abbrev poised : ℕ → Status
      poised i = Poised (op i)

      abbrev in_first : Status
      in_first = AheadInFirst (op a) (transition t (op a) c.state).0

      abbrev in_second : Status
      in_second = AheadInSecond (op b) (transition t (op b) c.state).0

      abbrev none : List ℕ → ℕ → Option ℕ
      none order i = None

      -- nobody has moved; then a in the first run; then b in the second
      fits_a : (i : ℕ) → i < n
          → Fits i (answer t c (a ∷ []) i) None (put poised a in_first i) (put (λ q. 4) a 3 i)
      fits_a = refit (λ i. None) (λ i. None) (answer t c (a ∷ [])) (λ i. None) poised (λ q. 4) a
          in_first 3 (λ i d. answer_other a i (λ e. d (sym e))) (λ i d. refl)
          (subst (λ (o : Option ℕ). Fits a o None in_first 3) (sym (answer_own a)) (refl, refl))
          (λ i l. (refl, refl))

      fits_both : (i : ℕ) → i < n → Fits i (answer t c (a ∷ []) i) (answer t c (b ∷ []) i)
          (put (put poised a in_first) b in_second i) (put (put (λ q. 4) a 3) b 3 i)
      fits_both = refit (answer t c (a ∷ [])) (λ i. None) (answer t c (a ∷ [])) (answer t c (b ∷ []))
          (put poised a in_first) (put (λ q. 4) a 3) b in_second 3 (λ i d. refl)
          (λ i d. answer_other b i (λ e. d (sym e)))
          (subst (λ (o : Option ℕ). Fits b o (answer t c (b ∷ []) b) in_second 3)
          (sym (answer_other a b apart))
          (subst (λ (o : Option ℕ). Fits b None o in_second 3) (sym (answer_own b)) (refl, refl)))
          fits_a

      holds_out : (k : ℕ) × HoldsWithin t n k (start t c a b)
      unfolding AllHold
      holds_out = (
        suc (total (put (put (λ q. 4) a 3) b 3) n),
        all_hold (suc (total (put (put (λ q. 4) a 3) b 3) n)) (start t c a b)
            (put (put (λ q. 4) a 3) b 3) (a ∷ []) (b ∷ []) (alone A a la in_a) (alone B b lb in_b)
            fits_both (omega arith),
      )

    pub view_witness_defended : IsDefended t c
    view_witness_defended a b la lb in_a in_b = holds_out a b la lb in_a in_b

pub views_defended : (t : TypeTable) (n : ℕ) → IsClosed t → IsViewDiscerning t n
    → IsDefendedFor t n
views_defended t n closed v = (
  v.2,
  v.3,
  view_witness_defended t v.2 closed
      (subst (λ (m : ℕ). IsRawChoice t m v.2) (sym v.3.one_operation_each) v.3) v.0 v.1 v.4,
)
