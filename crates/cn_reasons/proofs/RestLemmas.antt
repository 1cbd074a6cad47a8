-- How the beginnings of orders go on.
use Rattle.std.proofs.Common.{◌≡◌, ◌≢◌, ◌∙◌, ℕ, ◌+◌, ◌-◌, ◌<◌, ◌≤◌, ◌⊎◌, ◌↔◌, inl, inr, List, [], ◌∷◌, ◌++◌, append-nil, append_assoc, length, length-append, map, refl, sym, ap, subst, take, arith, Some, Less, Equal, Greater, All, Contains, IsBitSet}
use Rattle.std.specs.Prelude.{slice_get, slice_index, slice_index_or}
use Rattle.std.specs.Ordering.{nat_cmp}
use Rattle.std.specs.Cmp.{nat_cmp_is}
use Rattle.std.specs.Cmp.Lexicographic.{slice_cmp}
use Rattle.std.proofs.lemmas.Bool.{cases_order}
use Rattle.std.proofs.lemmas.List.{length-map, map-append, take_at}
use Rattle.std.proofs.lemmas.List.Elements.{All-from_recursion, All-map, recursion_from_All}
use Rattle.cn_table.specs.TypeTable.{TypeTable, transition}
use Rattle.cn_table.specs.Run.{state_after}
use Rattle.cn_choice.specs.Moves.{next_of}
use Rattle.cn_choice.specs.Orders.{ComesBefore, IsOrder}
use Rattle.cn_choice.specs.OutcomeSets.{BeginsIn, operations_of}
use Rattle.cn_choice.specs.RawChoices.{RawChoice}
use Rattle.cn_choice.specs.Renumbering.{Embeds}
use Rattle.cn_choice.specs.declared.team.Team.{Team}
use Rattle.cn_choice.proofs.ChoiceLemmas.Embeddings.{begins_embeds, operations_embed, order_embeds}
use Rattle.cn_choice.proofs.ListLemmas.Arrangements.{Differ}
use Rattle.cn_choice.proofs.ListLemmas.Members.{Contains-from_IsIn, IsIn, IsIn-append_cases, IsIn-append_left, IsIn-append_right, IsIn-from_Contains, each_at, each_from}
use Rattle.cn_choice.proofs.OrderLemmas.AllOrders.{differ_from, fits_below}
use Rattle.cn_choice.proofs.OrderLemmas.LastMoves.{known_last, order_from}
use Rattle.cn_outcomes.specs.LeftStates.{LeavesIn}
use Rattle.cn_outcomes.specs.Twins.{AreTwins}
use Rattle.cn_outcomes.proofs.Exchange.{exchange, exchange_first, exchange_other, exchange_second, exchange_twice, which}
use Rattle.cn_outcomes.proofs.LastProcess.{begins_more, known_from, none_set, same_or_not, state_along, zero_has_none}
use Rattle.cn_reasons.specs.Beginnings.{GoesOn, IsAim, IsBeginning, IsFirstRest, IsFree, IsPassed, NoRest}
use Rattle.cn_reasons.specs.NotRecording.{IsFirstOrder, Leaves}
use Rattle.cn_reasons.specs.Onward.{EndsIn}
use Rattle.cn_reasons.specs.declared.first_order.Aim.{Aim}

-- ---- lists

behind : (q p : ℕ) (qs tail : List ℕ) → q ≡ p → slice_cmp nat_cmp (q ∷ qs) (p ∷ tail) ≡ Less → slice_cmp nat_cmp qs tail ≡ Less
behind q p qs tail e b = rw (sym (nat_cmp_is q p Equal e)) at b

not_above : (q p : ℕ) (qs tail : List ℕ) → p < q → slice_cmp nat_cmp (q ∷ qs) (p ∷ tail) ≡ Less → ⊥
not_above q p qs tail g b = let no : Greater ≡ Less = rw (sym (nat_cmp_is q p Greater g)) at b in absurd (cc)

after_both : (t : TypeTable) (xs ys : List ℕ) (s : ℕ) → state_after t s (xs ++ ys) ≡ state_after t (state_after t s xs) ys
after_both t [] ys s = refl
after_both t (x ∷ xs) ys s = after_both t xs ys (transition t x s).1

-- no list has a process twice
twice : (xs ys : List ℕ) (p : ℕ) → IsIn p xs → Differ (xs ++ p ∷ ys) → ⊥
twice [] ys p i d = absurd i
twice (x ∷ xs) ys p i d = elim i [
  | inl e ↦ each_at (λ z. x ≢ z) (xs ++ p ∷ ys) p d.0 (IsIn-append_right p xs (p ∷ ys) (inl refl)) e
  | inr j ↦ twice xs ys p j d.1
]

-- the list without the element that was put at its end
pub popped : (old pushed new : List ℕ) (p : ℕ) → pushed ≡ old ++ p ∷ [] → new ≡ take (length pushed - 1) pushed → new ≡ old
popped old pushed new p e n = n ∙ (ap (λ (xs : List ℕ). take (length xs - 1) xs) e ∙ take_at old (p ∷ []) (length (old ++ p ∷ []) - 1) (omega (arith, length-append old (p ∷ []))))

-- ---- twins exchanged

module _ (c : RawChoice) (b : ℕ) (twins : AreTwins c b) where
  abbrev ex : ℕ → ℕ
  ex = exchange b (b + 1)

  twins_embed : Embeds ex c c
  twins_embed = record {
    same_state = refl;
    inside = λ i l. elim (which b (b + 1) i) [
      | inl e ↦ (let f = exchange_first b (b + 1) i e in omega (arith, twins.inside, f))
      | inr r ↦ elim r [ inl e ↦ (let f = exchange_second b (b + 1) i e in omega (arith, twins.inside, f)) | inr n ↦ (let f = exchange_other b (b + 1) i n.0 n.1 in omega (arith, l, f)) ]
    ];
    apart = λ i j l u e. sym (exchange_twice b (b + 1) i) ∙ (ap ex e ∙ exchange_twice b (b + 1) j);
    operation = λ i l. elim (which b (b + 1) i) [
      | inl e ↦ ap (slice_index c.operations) e ∙ (twins.operation ∙ ap (slice_index c.operations) (sym (exchange_first b (b + 1) i e)))
      | inr r ↦ elim r [
        | inl e ↦ ap (slice_index c.operations) e ∙ (sym twins.operation ∙ ap (slice_index c.operations) (sym (exchange_second b (b + 1) i e)))
        | inr n ↦ ap (slice_index c.operations) (sym (exchange_other b (b + 1) i n.0 n.1))
      ]
    ];
    team = λ i l. elim (which b (b + 1) i) [
      | inl e ↦ ap (slice_get c.marks) e ∙ (twins.team ∙ ap (slice_get c.marks) (sym (exchange_first b (b + 1) i e)))
      | inr r ↦ elim r [
        | inl e ↦ ap (slice_get c.marks) e ∙ (sym twins.team ∙ ap (slice_get c.marks) (sym (exchange_second b (b + 1) i e)))
        | inr n ↦ ap (slice_get c.marks) (sym (exchange_other b (b + 1) i n.0 n.1))
      ]
    ];
  }

  leaves_embed : (t : TypeTable) (team : Team) (q : ℕ) (order : List ℕ) → Leaves t c team q order → Leaves t c team q (map ex order)
  leaves_embed t team q order l =
      let known = recursion_from_All (λ p. p < length c.operations) order l.is.known in
      record {
        is = order_embeds ex c c twins_embed order l.is;
        begins = begins_embeds ex c c twins_embed team order known l.begins;
        ends = ap (state_after t c.state) (sym (operations_embed ex c c twins_embed order known)) ∙ l.ends;
      }

  -- a list without either stays the same
  fixed : (xs : List ℕ) → ((x : ℕ) → IsIn x xs → (x ≢ b) × (x ≢ b + 1)) → map ex xs ≡ xs
  fixed [] h = refl
  fixed (x ∷ xs) h = let n = h x (inl refl) in rw (exchange_other b (b + 1) x n.0 n.1, fixed xs (λ y i. h y (inr i))) refl

  -- the twin that moves in place of the other one
  leaves_before : (t : TypeTable) (team : Team) (q : ℕ) (order rest : List ℕ) → ¬ IsIn b order → ¬ IsIn (b + 1) order
      → Leaves t c team q (order ++ (b + 1) ∷ rest) → Leaves t c team q (order ++ b ∷ map ex rest)
  leaves_before t team q order rest n m l =
      let same : map ex (order ++ (b + 1) ∷ rest) ≡ order ++ b ∷ map ex rest =
      map-append ex order ((b + 1) ∷ rest)
      ∙ (ap (λ (xs : List ℕ). xs ++ map ex ((b + 1) ∷ rest)) (fixed order (λ x i. (λ e. n (subst (λ (y : ℕ). IsIn y order) e i), λ e. m (subst (λ (y : ℕ). IsIn y order) e i))))
      ∙ ap (λ (y : ℕ). order ++ y ∷ map ex rest) (exchange_second b (b + 1) (b + 1) refl)) in
      subst (Leaves t c team q) same (leaves_embed t team q (order ++ (b + 1) ∷ rest) l)

-- ---- beginnings

module _ (a : Aim) where
  abbrev t : TypeTable
  t = a.table.now

  abbrev c : RawChoice
  c = a.choice.now

  abbrev n : ℕ
  n = length a.choice.now.operations

  more_order : (order : List ℕ) (p : ℕ) → IsOrder n order → ((x : ℕ) → IsIn x order → x ≢ p) → p < n → IsOrder n (order ++ p ∷ [])
  more_order [] p o d l = absurd (o.someone refl)
  more_order (x ∷ xs) p o d l = order_from n x (xs ++ p ∷ []) (known_last n (x ∷ xs) p (known_from n (x ∷ xs) o) d l)

  nobody : (order : List ℕ) (used : ℕ) → ((p : ℕ) → IsBitSet used p ↔ Contains order p) → order ≡ [] → used ≡ 0
  nobody order used moved e = none_set used (λ k s. subst (IsIn k) e (IsIn-from_Contains k order ((moved k).0 s)))

  is_empty : (order : List ℕ) (used : ℕ) → ((p : ℕ) → IsBitSet used p ↔ Contains order p) → used ≡ 0 → order ≡ []
  is_empty [] used moved e = refl
  is_empty (x ∷ xs) used moved e = absurd (zero_has_none x (subst (λ (u : ℕ). IsBitSet u x) e ((moved x).1 (Contains-from_IsIn x (x ∷ xs) (inl refl)))))

  pub begun_more : (order : List ℕ) (used state p used2 state2 : ℕ) → IsBeginning a order used state → p < n → IsFree a used p
      → ((q : ℕ) → IsBitSet used2 q ↔ (IsBitSet used q ⊎ (q ≡ p))) → state2 < length t.states → state2 ≡ next_of t c p state → IsBeginning a (order ++ p ∷ []) used2 state2
  begun_more order used state p used2 state2 b l free u known e = record {
    is = inr (elim b.is [
      | inl none ↦ (
        subst (λ (xs : List ℕ). IsOrder n (xs ++ p ∷ [])) (sym none)
            (order_from n p [] (record { below = λ x i. elim i [ inl f ↦ subst (λ (y : ℕ). y < n) f l | inr z ↦ absurd z ]; differ = (tt, tt) })),
        subst (λ (xs : List ℕ). BeginsIn c a.team (xs ++ p ∷ [])) (sym none) (p, refl, free.1 (nobody order used b.moved none)),
      )
      | inr some ↦ (
        more_order order p some.0 (λ x i f. free.0 ((b.moved p).1 (Contains-from_IsIn p order (subst (λ (y : ℕ). IsIn y order) f i)))) l,
        begins_more c a.team order p some.1,
      )
    ]);
    moved = λ q. (
      λ s. elim ((u q).0 s) [
        | inl v ↦ Contains-from_IsIn q (order ++ p ∷ []) (IsIn-append_left q order (p ∷ []) (IsIn-from_Contains q order ((b.moved q).0 v)))
        | inr f ↦ Contains-from_IsIn q (order ++ p ∷ []) (IsIn-append_right q order (p ∷ []) (inl (sym f)))
      ],
      λ h. (u q).1 (elim (IsIn-append_cases q order (p ∷ []) (IsIn-from_Contains q (order ++ p ∷ []) h)) [
        | inl i ↦ inl ((b.moved q).1 (Contains-from_IsIn q order i))
        | inr i ↦ elim i [ inl f ↦ inr (sym f) | inr z ↦ absurd z ]
      ]),
    );
    known = known;
    state_is = e ∙ (ap (next_of t c p) b.state_is ∙ sym (state_along t c order p));
  }

  -- the beginning of all orders
  pub begun_first : (order : List ℕ) (state : ℕ) → order ≡ [] → state < length t.states → state ≡ c.state → IsBeginning a order 0 state
  begun_first order state none known e = record {
    is = inl none;
    moved = λ p. (λ s. absurd (zero_has_none p s), λ h. absurd (subst (IsIn p) none (IsIn-from_Contains p order h)));
    known = known;
    state_is = e ∙ sym (ap (λ (xs : List ℕ). state_after t c.state (operations_of c xs)) none);
  }

  rest_known : (order rest : List ℕ) → GoesOn a order rest → All (λ p. p < n) rest
  rest_known order rest g =
      All-from_recursion (λ p. p < n) rest
      (each_from (λ p. p < n) rest (λ x i. each_at (λ p. p < n) (order ++ rest) x (recursion_from_All (λ p. p < n) (order ++ rest) g.is.known) (IsIn-append_right x order rest i)))

  -- where no word leads to the state of the aim, the order does not go on to it
  pub none_led : (order : List ℕ) (used state count : ℕ) → IsAim a → IsBeginning a order used state → ¬ EndsIn t state count a.state.0 → NoRest a count order
  none_led order used state count aim b none rest long g =
      let known = rest_known order rest g in
      none (
        operations_of c rest,
        All-map (λ o. o < length t.operations) (λ p. slice_index c.operations p) rest (λ i d less. aim.fits.operations_known (slice_index_or rest i d) 0 (known i d less)),
        length-map rest (λ p. slice_index c.operations p) ∙ long,
        ap (λ (s : ℕ). state_after t s (operations_of c rest)) b.state_is
            ∙ (sym (after_both t (operations_of c order) (operations_of c rest) c.state)
            ∙ (ap (state_after t c.state) (sym (map-append (λ p. slice_index c.operations p) order rest)) ∙ g.ends)),
      )

  -- an order that ends in the state of the aim
  pub first_end : (order : List ℕ) (used state : ℕ) → IsBeginning a order used state → order ≢ [] → EndsIn t state 0 a.state.0 → IsFirstRest a 0 order []
  first_end order used state b some ends = record {
    long = refl;
    goes_on = subst (Leaves t c a.team a.state.0) (sym (append-nil order)) (elim b.is [
      | inl none ↦ absurd (some none)
      | inr is ↦ record { is = is.0; begins = is.1; ends = sym b.state_is ∙ at_once ends.0 ends.2 ends.3 }
    ]);
    first = λ other long before g. nothing other long before;
  }
    where
      at_once : (word : List ℕ) → length word ≡ 0 → state_after t state word ≡ a.state.0 → state ≡ a.state.0
      at_once [] l e = e
      at_once (x ∷ xs) l e = absurd (omega (arith, l))

      nothing : (other : List ℕ) → length other ≡ 0 → slice_cmp nat_cmp other [] ≡ Less → ⊥
      nothing [] l b = absurd (cc b)
      nothing (x ∷ xs) l b = absurd (omega (arith, l))

  -- the order does not go on with this process
  abbrev pub Dead : ℕ → List ℕ → ℕ → Type 0
  Dead count order p = (rest : List ℕ) → length rest + 1 ≡ count → ¬ GoesOn a order (p ∷ rest)

  pub dead_here : (count : ℕ) (order : List ℕ) (p : ℕ) → NoRest a (count - 1) (order ++ p ∷ []) → Dead count order p
  dead_here count order p none rest long g = none rest (omega (arith, long)) (subst (Leaves t c a.team a.state.0) (sym (append_assoc order (p ∷ []) rest)) g)

  not_twice : (order rest : List ℕ) (p : ℕ) → GoesOn a order (p ∷ rest) → ¬ IsIn p order
  not_twice order rest p g i = twice order rest p i (differ_from (order ++ p ∷ rest) g.is.distinct)

  first_mark : (rest : List ℕ) (p : ℕ) → BeginsIn c a.team (p ∷ rest) → slice_get c.marks p ≡ Some a.team
  first_mark rest p h = by_first h.0 h.1 h.2
    where
      by_first : (q : ℕ) → slice_get (p ∷ rest) 0 ≡ Some q → slice_get c.marks q ≡ Some a.team → slice_get c.marks p ≡ Some a.team
      by_first q e m = let same : p ≡ q = cc in rw same m

  pub dead_passed : (count : ℕ) (order : List ℕ) (used state p : ℕ) → IsBeginning a order used state → IsPassed a used p → ((b : ℕ) → b < p → Dead count order b) → Dead count order p
  dead_passed count order used state p b passed dead rest long g = elim passed [
    | inl moved ↦ not_twice order rest p g (IsIn-from_Contains p order ((b.moved p).0 moved))
    | inr later ↦ elim later [
      | inl other ↦ other.1 (first_mark rest p (subst (λ (xs : List ℕ). BeginsIn c a.team (xs ++ p ∷ rest)) (is_empty order used b.moved other.0) g.begins))
      | inr twin ↦ (
          let x = twin.0 in
          let here = subst (λ (y : ℕ). GoesOn a order (y ∷ rest)) twin.1 g in
          dead x (omega (arith, twin.1)) (map (exchange x (x + 1)) rest) (length_same (exchange x (x + 1)))
          (leaves_before c x twin.2 t a.team a.state.0 order rest (λ i. twin.3 ((b.moved x).1 (Contains-from_IsIn x order i))) (not_twice order rest (x + 1) here) here)
          )
    ]
  ]
    where
      length_same : (f : ℕ → ℕ) → length (map f rest) + 1 ≡ count
      length_same f = omega (arith, length-map rest f, long)

  pub dead_more : (count : ℕ) (order : List ℕ) (k : ℕ) → ((p : ℕ) → p < k → Dead count order p) → Dead count order k → (p : ℕ) → p < k + 1 → Dead count order p
  dead_more count order k dead here p u = elim (same_or_not p k) [ inl e ↦ subst (Dead count order) (sym e) here | inr m ↦ dead p (omega (arith, u, m)) ]

  -- where it goes on with no process, it does not go on
  pub none_left : (count : ℕ) (order : List ℕ) (end : ℕ) → 1 ≤ count → n ≤ end → ((p : ℕ) → p < end → Dead count order p) → NoRest a count order
  none_left count order end some past dead [] long g = absurd (omega (arith, long, some))
  none_left count order end some past dead (p ∷ ps) long g =
      let known = (recursion_from_All (λ p. p < n) (p ∷ ps) (rest_known order (p ∷ ps) g)).0 in
      dead p (omega (arith, known, past)) ps (omega (arith, long)) g

  pub first_more : (count : ℕ) (order : List ℕ) (p : ℕ) (rest : List ℕ) → 1 ≤ count → ((b : ℕ) → b < p → Dead count order b) → IsFirstRest a (count - 1) (order ++ p ∷ []) rest
      → IsFirstRest a count order (p ∷ rest)
  first_more count order p rest some dead f = record {
    long = (let e = f.long in omega (arith, e, some));
    goes_on = subst (Leaves t c a.team a.state.0) (append_assoc order (p ∷ []) rest) f.goes_on;
    first = first;
  }
    where
      first : (other : List ℕ) → length other ≡ count → slice_cmp nat_cmp other (p ∷ rest) ≡ Less → ¬ GoesOn a order other
      first [] long before g = absurd (omega (arith, long, some))
      first (q ∷ qs) long before g = elim (cases_order q p) [
        | inl same ↦ f.first qs
            (omega (arith, long))
            (behind q p qs rest same before)
            (subst (Leaves t c a.team a.state.0) (sym (append_assoc order (p ∷ []) qs)) (subst (λ (k : ℕ). GoesOn a order (k ∷ qs)) same g))
        | inr apart ↦ elim apart [ inl less ↦ dead q less qs (omega (arith, long)) g | inr more ↦ absurd (not_above q p qs rest more before) ]
      ]

  -- ---- by length

  pub none_of_none : (count : ℕ) → count ≡ 0 → NoRest a count []
  none_of_none count e rest long g = g.is.someone (empty rest (long ∙ e))
    where
      empty : (rest : List ℕ) → length rest ≡ 0 → rest ≡ []
      empty [] l = refl
      empty (x ∷ xs) l = absurd (omega (arith, l))

  pub first_is : (count : ℕ) (order : List ℕ) → ((k : ℕ) → k < count → NoRest a k []) → IsFirstRest a count [] order → IsFirstOrder t c a.team a.state.0 order
  first_is count order none f = record {
    leaves = f.goes_on;
    first = λ other before. elim before [
      | inl shorter ↦ none (length other) (omega (arith, shorter, f.long)) other refl
      | inr later ↦ f.first other (later.0 ∙ f.long) later.1
    ];
  }

  pub none_at_all : ((k : ℕ) → k < n + 1 → NoRest a k []) → ¬ LeavesIn t c a.team a.state.0
  none_at_all none h =
      let few = fits_below n h.0 (recursion_from_All (λ p. p < n) h.0 h.1.known) (differ_from h.0 h.1.distinct) in
      none (length h.0) (omega (arith, few)) h.0 refl (record { is = h.1; begins = h.2; ends = h.3 })
