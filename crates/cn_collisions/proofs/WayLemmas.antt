-- The ways to go on, by the first process.
use Rattle.std.proofs.Common.{◌≡◌, ◌≢◌, ℕ, suc, ◌+◌, ◌-◌, ◌^◌, ◌<◌, ◌≤◌, ◌⊎◌, inl, inr, List, [], ◌∷◌, ◌++◌, append_assoc, length, map, refl, sym, ap, ◌∙◌, subst, arith, Bool, cond, nat_eq, Option, Some, None, Less, Equal, Greater}
use Rattle.std.specs.Prelude.{IsBitSet, slice_index}
use Rattle.std.specs.Int.Bits.{bit_or}
use Rattle.std.specs.Ordering.{nat_cmp}
use Rattle.std.specs.Cmp.{nat_cmp_is}
use Rattle.std.specs.Cmp.Lexicographic.{slice_cmp}
use Rattle.std.proofs.lemmas.Bool.{cases_order, ne_eqb}
use Rattle.std.proofs.lemmas.List.{length-map}
use Rattle.std.proofs.lemmas.Option.{same_Some}
use Rattle.std.proofs.lemmas.Nat.Bits.{bit_at-pow_same}
use Rattle.cn_table.specs.TypeTable.{TypeTable, transition}
use Rattle.cn_stocks.specs.declared.pair_sets.PairSet.{PairSet}
use Rattle.cn_stocks.specs.Pairs.{Has}
use Rattle.cn_choice.specs.RawChoices.{RawChoice}
use Rattle.cn_choice.specs.Moves.{answer_of, next_of}
use Rattle.cn_collisions.specs.Ways.{BeginsWithin, Ends, Hits, IsFirstWay, IsFresh, IsTried, IsWay, LeadsNowhere, NoWay, StepWay, WayTo, seen_after}
use Rattle.cn_outcomes.proofs.BitSets.{pow_set, union_set}
use Rattle.cn_outcomes.proofs.Exchange.{IsExchanged, exchange, exchange_first, exchange_other, exchange_second, exchange_twice, which}
use Rattle.cn_outcomes.proofs.LastProcess.{same_or_not, set_from, zero_has_none}

pub in_pow : (k : ℕ) → IsBitSet (2 ^ k) k
in_pow k = set_from (2 ^ k) k (bit_at-pow_same k)

-- ---- lexicographic order

behind : (q p : ℕ) (qs tail : List ℕ) → q ≡ p → slice_cmp nat_cmp (q ∷ qs) (p ∷ tail) ≡ Less → slice_cmp nat_cmp qs tail ≡ Less
behind q p qs tail e b = rw (sym (nat_cmp_is q p Equal e)) at b

pub not_above : (q p : ℕ) (qs tail : List ℕ) → p < q → slice_cmp nat_cmp (q ∷ qs) (p ∷ tail) ≡ Less → ⊥
not_above q p qs tail g b = let no : Greater ≡ Less = rw (sym (nat_cmp_is q p Greater g)) at b in absurd (cc)

-- ---- two processes exchanged

module _ (p q : ℕ) where
  with_exchanged : (U V y : ℕ) → IsExchanged p q U V → IsExchanged p q (bit_or U (2 ^ y)) (bit_or V (2 ^ exchange p q y))
  with_exchanged U V y x i = (
    λ s. (union_set U (2 ^ y) (exchange p q i)).1 (elim ((union_set V (2 ^ exchange p q y) i).0 s) [
      | inl a ↦ inl ((x i).0 a)
      | inr b ↦ inr (let e = pow_set (exchange p q y) i b in subst (IsBitSet (2 ^ y)) (sym (ap (exchange p q) e ∙ exchange_twice p q y)) (in_pow y))
    ]),
    λ s. (union_set V (2 ^ exchange p q y) i).1 (elim ((union_set U (2 ^ y) (exchange p q i)).0 s) [
      | inl a ↦ inl ((x i).1 a)
      | inr b ↦ inr (let e = pow_set y (exchange p q i) b in subst (IsBitSet (2 ^ exchange p q y)) (sym (sym (exchange_twice p q i) ∙ ap (exchange p q) e)) (in_pow (exchange p q y)))
    ]),
  )

  fresh_exchanged : (n U V : ℕ) → p < n → q < n → IsExchanged p q U V → (xs : List ℕ) → IsFresh n U xs → IsFresh n V (map (exchange p q) xs)
  fresh_exchanged n U V l m x [] h = tt
  fresh_exchanged n U V l m x (y ∷ ys) h = (
    elim (which p q y) [
      | inl e ↦ (let f = exchange_first p q y e in omega (arith, m, f))
      | inr r ↦ elim r [ inl e ↦ (let f = exchange_second p q y e in omega (arith, l, f)) | inr o ↦ (let f = exchange_other p q y o.0 o.1 in omega (arith, h.0, f)) ]
    ],
    λ s. h.1 (subst (IsBitSet U) (exchange_twice p q y) ((x (exchange p q y)).0 s)),
    fresh_exchanged n (bit_or U (2 ^ y)) (bit_or V (2 ^ exchange p q y)) l m (with_exchanged U V y x) ys h.2,
  )

  -- a set without either stays the same
  neither : (U : ℕ) → ¬ IsBitSet U p → ¬ IsBitSet U q → IsExchanged p q U U
  neither U n m i = elim (which p q i) [
    | inl e ↦ (λ s. absurd (n (subst (IsBitSet U) e s)), λ s. absurd (m (subst (IsBitSet U) (exchange_first p q i e) s)))
    | inr r ↦ elim r [
      | inl e ↦ (λ s. absurd (m (subst (IsBitSet U) e s)), λ s. absurd (n (subst (IsBitSet U) (exchange_second p q i e) s)))
      | inr o ↦ (let f = exchange_other p q i o.0 o.1 in (λ s. subst (IsBitSet U) (sym f) s, λ s. subst (IsBitSet U) f s))
    ]
  ]

module _ (t : TypeTable) (c : RawChoice) (p q : ℕ) (same : slice_index c.operations p ≡ slice_index c.operations q) (j : ℕ) (n : p ≢ j) (m : q ≢ j) where
  same_operation : (y : ℕ) → slice_index c.operations y ≡ slice_index c.operations (exchange p q y)
  same_operation y = elim (which p q y) [
    | inl e ↦ ap (slice_index c.operations) e ∙ (same ∙ ap (slice_index c.operations) (sym (exchange_first p q y e)))
    | inr r ↦ elim r [
      | inl e ↦ ap (slice_index c.operations) e ∙ (sym same ∙ ap (slice_index c.operations) (sym (exchange_second p q y e)))
      | inr o ↦ ap (slice_index c.operations) (sym (exchange_other p q y o.0 o.1))
    ]
  ]

  same_test : (y : ℕ) → nat_eq y j ≡ nat_eq (exchange p q y) j
  same_test y = elim (which p q y) [
    | inl e ↦ ne_eqb y j (λ g. n (sym e ∙ g)) ∙ sym (ne_eqb (exchange p q y) j (λ g. m (sym (exchange_first p q y e) ∙ g)))
    | inr r ↦ elim r [
      | inl e ↦ ne_eqb y j (λ g. m (sym e ∙ g)) ∙ sym (ne_eqb (exchange p q y) j (λ g. n (sym (exchange_second p q y e) ∙ g)))
      | inr o ↦ ap (λ (x : ℕ). nat_eq x j) (sym (exchange_other p q y o.0 o.1))
    ]
  ]

  same_seen : (y r : ℕ) (seen : Option ℕ) → seen_after j y r seen ≡ seen_after j (exchange p q y) r seen
  same_seen y r None = ap (λ (b : Bool). cond b (Some r) None) (same_test y)
  same_seen y r (Some s) = refl

  ends_exchanged : (xs : List ℕ) (state : ℕ) (seen : Option ℕ) (pair : ℕ × ℕ) → Ends t c j state seen xs pair → Ends t c j state seen (map (exchange p q) xs) pair
  ends_exchanged [] state seen pair h = h
  ends_exchanged (y ∷ ys) state seen pair h =
      let here = ends_exchanged ys (next_of t c y state) (seen_after j y (answer_of t c y state) seen) pair h in
      let moved = subst (λ (o : ℕ). Ends t c j (transition t o state).1 (seen_after j y (transition t o state).0 seen) (map (exchange p q) ys) pair) (same_operation y) here in
      subst (λ (s : Option ℕ). Ends t c j (next_of t c (exchange p q y) state) s (map (exchange p q) ys) pair) (same_seen y (answer_of t c (exchange p q y) state) seen) moved

-- a way to go on from a process is like one from another process with its operation
pub step_exchanged : (t : TypeTable) (c : RawChoice) (j p q : ℕ) → slice_index c.operations p ≡ slice_index c.operations q → p ≢ j → q ≢ j → p < length c.operations
    → q < length c.operations → (r s : ℕ)
    → StepWay t c j q r s → StepWay t c j p r s
step_exchanged t c j p q same n m l u r s h =
    let ps = h.2.0 in
    let moved = map (exchange p q) ps in
    let first : exchange p q q ≡ p = exchange_second p q q refl in
    let fresh = fresh_exchanged p q (length c.operations) 0 0 l u (neither p q 0 (zero_has_none p) (zero_has_none q)) (q ∷ ps) (u, zero_has_none q, h.2.2) in
    let ends = ends_exchanged t c p q same j n m (q ∷ ps) c.state None (r, s) h.2.3 in (
      h.0,
      h.1,
      (
        moved,
        length-map ps (exchange p q) ∙ h.2.1,
        (subst (λ (k : ℕ). IsFresh (length c.operations) 0 (k ∷ moved)) first fresh).2,
        subst (λ (k : ℕ). Ends t c j c.state None (k ∷ moved) (r, s)) first ends,
      ),
    )

-- ---- the first process of a way

pub tried_more : (c : RawChoice) (j low end used o : ℕ) → IsTried c j low end used o → IsTried c j low (end + 1) used o
tried_more c j low end used o h = (h.0, h.1, omega (arith, h.2), h.3, h.4, h.5)

-- with the operation of the next process
pub tried_next : (c : RawChoice) (j low p used before after : ℕ) → low ≤ p → ¬ IsBitSet used p → ((o : ℕ) → IsBitSet before o → IsTried c j low p used o)
    → ((o : ℕ) → IsBitSet after o → IsBitSet before o ⊎ ((p ≢ j) × (o ≡ slice_index c.operations p))) → (o : ℕ) → IsBitSet after o → IsTried c j low (p + 1) used o
tried_next c j low p used before after from free old added o s = elim (added o s) [
  | inl b ↦ tried_more c j low p used o (old o b)
  | inr r ↦ (p, from, omega arith, r.0, free, sym r.1)
]

module _ (t : TypeTable) (c : RawChoice) (j : ℕ) (set : PairSet) (size low high used state : ℕ) (seen : Option ℕ) where
  abbrev Way : List ℕ → Type 0
  Way ps = IsWay (length c.operations) size low high used ps

  -- no way that begins with this process leads into the set
  abbrev pub Dead : ℕ → Type 0
  Dead p = LeadsNowhere t c j set size low high used state seen p

  dead_used : (p : ℕ) → IsBitSet used p → Dead p
  dead_used p u ps way hits = way.fresh.1 u

  way_before : (p q : ℕ) (ps : List ℕ) → p < q → low ≤ p → p < high → ¬ IsBitSet used p → Way (q ∷ ps) → Way (p ∷ map (exchange p q) ps)
  way_before p q ps less l u n way = record {
    long = ap suc (length-map ps (exchange p q)) ∙ way.long;
    begins = (l, u);
    fresh = subst (λ (k : ℕ). IsFresh (length c.operations) used (k ∷ map (exchange p q) ps)) (exchange_second p q q refl)
        (fresh_exchanged p q (length c.operations) used used (omega (arith, less, way.fresh.0)) way.fresh.0 (neither p q used n way.fresh.1) (q ∷ ps) way.fresh);
  }

  -- an earlier process with the same operation makes this one unnecessary
  dead_tried : (q : ℕ) → q ≢ j → q < high → IsTried c j low q used (slice_index c.operations q) → ((p : ℕ) → low ≤ p → p < q → Dead p) → Dead q
  dead_tried q m high tried dead ps way hits =
      let p = tried.0 in
      dead p tried.1 tried.2 (map (exchange p q) ps) (way_before p q ps tried.2 tried.1 (omega (arith, tried.2, high)) tried.4 way) (
        hits.0,
        subst (λ (k : ℕ). Ends t c j state seen (k ∷ map (exchange p q) ps) hits.0) (exchange_second p q q refl)
            (ends_exchanged t c p q tried.5 j tried.3 m (q ∷ ps) state seen hits.0 hits.1),
        hits.2,
      )

  -- a process that is not tried leads nowhere
  pub dead_closed : (q : ℕ) → q < high → ((p : ℕ) → low ≤ p → p < q → Dead p) → IsBitSet used q ⊎ ((q ≢ j) × IsTried c j low q used (slice_index c.operations q)) → Dead q
  dead_closed q high dead h = elim h [
    | inl u ↦ dead_used q u
    | inr r ↦ dead_tried q r.0 high r.1 dead
  ]

  pub dead_more : (k : ℕ) → ((p : ℕ) → low ≤ p → p < k → Dead p) → Dead k → (p : ℕ) → low ≤ p → p < k + 1 → Dead p
  dead_more k dead here p l u = elim (same_or_not p k) [ inl e ↦ subst Dead (sym e) here | inr n ↦ dead p l (omega (arith, u, n)) ]

  -- where each process within the bounds leads nowhere there is no way
  pub no_way_left : (end : ℕ) → 1 ≤ size → high ≤ end → ((p : ℕ) → low ≤ p → p < end → Dead p) → NoWay t c j set size low high used state seen
  no_way_left end some past dead [] way hits = absurd (omega (arith, way.long, some))
  no_way_left end some past dead (p ∷ ps) way hits = dead p way.begins.0 (omega (arith, way.begins.1, past)) ps way hits

  module _ (p n : ℕ) (every : n ≡ length c.operations) (some : 1 ≤ size) where
    rest_way : (ps : List ℕ) → Way (p ∷ ps) → IsWay (length c.operations) (size - 1) 0 n (bit_or used (2 ^ p)) ps
    rest_way ps way = record { long = (let e = way.long in omega (arith, e, some)); begins = within ps way.fresh.2; fresh = way.fresh.2 }
      where
        within : (ps : List ℕ) → IsFresh (length c.operations) (bit_or used (2 ^ p)) ps → BeginsWithin 0 n ps
        within [] f = tt
        within (q ∷ qs) f = (omega arith, omega (arith, f.0, every))

    pub dead_here : NoWay t c j set (size - 1) 0 n (bit_or used (2 ^ p)) (next_of t c p state) (seen_after j p (answer_of t c p state) seen) → Dead p
    dead_here none ps way hits = none ps (rest_way ps way) hits

    pub first_way : (tail : List ℕ) (pair : ℕ × ℕ) → p < length c.operations → low ≤ p → p < high → ¬ IsBitSet used p → ((a : ℕ) → low ≤ a → a < p → Dead a)
        → IsFirstWay t c j set (size - 1) 0 n (bit_or used (2 ^ p)) (next_of t c p state) (seen_after j p (answer_of t c p state) seen) tail pair
        → IsFirstWay t c j set size low high used state seen (p ∷ tail) pair
    first_way tail pair l from upto u dead f = record {
      way = record { long = (let e = f.way.long in omega (arith, e, some)); begins = (from, upto); fresh = (l, u, f.way.fresh) };
      ends = f.ends;
      has = f.has;
      earlier = earlier;
    }
      where
        earlier : (x : List ℕ) → IsWay (length c.operations) size low high used x → slice_cmp nat_cmp x (p ∷ tail) ≡ Less → ¬ Hits t c j set state seen x
        earlier [] way before hits = absurd (omega (arith, way.long, some))
        earlier (q ∷ qs) way before hits = elim (cases_order q p) [
          | inl same ↦ f.earlier qs
              (rest_way qs (subst (λ (k : ℕ). Way (k ∷ qs)) same way))
              (behind q p qs tail same before)
              (subst (λ (k : ℕ). Hits t c j set state seen (k ∷ qs)) same hits)
          | inr apart ↦ elim apart [ inl less ↦ dead q way.begins.0 less qs way hits | inr more ↦ absurd (not_above q p qs tail more before) ]
        ]

-- ---- by the pairs with which ways end

module _ (t : TypeTable) (c : RawChoice) (j : ℕ) (set : PairSet) (size n used state : ℕ) (seen : Option ℕ) (every : n ≡ length c.operations) where
  pub no_way : (((r : ℕ) × ((q : ℕ) × WayTo t c j size used state seen r q × Has set r q)) → ⊥) → NoWay t c j set size 0 n used state seen
  no_way none x way hits = none (hits.0.0, (hits.0.1, (x, way.long, way.fresh, hits.1), hits.2))

  pub some_way : (r q : ℕ) → WayTo t c j size used state seen r q → Has set r q → NoWay t c j set size 0 n used state seen → ⊥
  some_way r q w s none = none w.0 (record { long = w.1; begins = within w.0 used w.2; fresh = w.2 }) ((r, q), w.3, s)
    where
      within : (ps : List ℕ) (used : ℕ) → IsFresh (length c.operations) used ps → BeginsWithin 0 n ps
      within [] used f = tt
      within (q ∷ qs) used f = (omega arith, omega (arith, f.0, every))

  -- an order that ends here
  module _ (done : size ≡ 0) (r q : ℕ) (w : WayTo t c j size used state seen r q) where
    pub at_end : (seen ≡ Some r) × (state ≡ q)
    at_end = by_list w.0 (w.1 ∙ done) w.3
      where
        by_list : (ps : List ℕ) → length ps ≡ 0 → Ends t c j state seen ps (r, q) → (seen ≡ Some r) × (state ≡ q)
        by_list [] l e = e
        by_list (p ∷ ps) l e = absurd (omega (arith, l))

    pub first_end : Has set r q → (pair : ℕ × ℕ) → seen ≡ Some pair.0 → state ≡ pair.1 → IsFirstWay t c j set size 0 n used state seen [] pair
    first_end s pair e f = record {
      way = record { long = sym done; begins = tt; fresh = tt };
      ends = (e, f);
      has = subst (λ (x : ℕ). Has set x pair.1) (same_Some r pair.0 (sym at_end.0 ∙ e)) (subst (λ (x : ℕ). Has set r x) (sym at_end.1 ∙ f) s);
      earlier = λ x way before hits. by_list x (way.long ∙ done) before;
    }
      where
        by_list : (x : List ℕ) → length x ≡ 0 → slice_cmp nat_cmp x [] ≡ Less → ⊥
        by_list [] l b = absurd (cc b)
        by_list (y ∷ x) l b = absurd (omega (arith, l))

-- what is known of a process that leads on, and of the way that goes on from it
module _ (t : TypeTable) (c : RawChoice) (j : ℕ) (set : PairSet) (size low high used state : ℕ) (seen : Option ℕ) (p : ℕ) (some : 1 ≤ size)
    (l : p < length c.operations) (from : low ≤ p) (upto : p < high) (free : ¬ IsBitSet used p) (dead : (a : ℕ) → low ≤ a → a < p → Dead t c j set size low high used state seen a)
    (used2 state2 : ℕ) (seen2 : Option ℕ) (used_is : used2 ≡ bit_or used (2 ^ p)) (state_is : state2 ≡ next_of t c p state) (seen_is : seen2 ≡ seen_after j p (answer_of t c p state) seen) where
  -- the order from here on
  abbrev pub LeadsOn : List ℕ → List ℕ → ℕ × ℕ → Type 0
  LeadsOn old new pair = (tail : List ℕ) × (new ≡ old ++ tail) × IsFirstWay t c j set size low high used state seen tail pair

  pub leads_on : (old pushed new : List ℕ) (pair : ℕ × ℕ) (n : ℕ) → n ≡ length c.operations → pushed ≡ old ++ p ∷ []
      → ((tail : List ℕ) × (new ≡ pushed ++ tail) × IsFirstWay t c j set (size - 1) 0 n used2 state2 seen2 tail pair) → LeadsOn old new pair
  leads_on old pushed new pair n every e h =
      let rest = subst (λ (u : ℕ). IsFirstWay t c j set (size - 1) 0 n u state2 seen2 h.0 pair) used_is h.2 in
      let later = subst (λ (q : ℕ). IsFirstWay t c j set (size - 1) 0 n (bit_or used (2 ^ p)) q seen2 h.0 pair) state_is rest in
      let last = subst (λ (s : Option ℕ). IsFirstWay t c j set (size - 1) 0 n (bit_or used (2 ^ p)) (next_of t c p state) s h.0 pair) seen_is later in (
        p ∷ h.0,
        h.1 ∙ (ap (λ (xs : List ℕ). xs ++ h.0) e ∙ append_assoc old (p ∷ []) h.0),
        first_way t c j set size low high used state seen p n every some h.0 pair l from upto free dead last,
      )
