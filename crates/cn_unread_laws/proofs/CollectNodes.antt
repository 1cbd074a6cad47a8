-- Collects make a node: after its operation a role guesses a state, and does all silent operations
-- again and again until all responses since the guess fit, as many times as there are roles.
use Rattle.std.proofs.Common.{◌≡◌, ◌≢◌, ℕ, zero, suc, ◌+◌, ◌-◌, ◌<◌, ◌≤◌, ◌⊎◌, inl, inr, List, []}
use Rattle.std.proofs.Common.{◌∷◌, ◌++◌, length, refl, sym, ap, ◌∙◌, subst, arith, cond, nat_lt, nat_eq}
use Rattle.std.proofs.Common.{slice_index, slice_get, Some, AllPairs}
use Rattle.std.proofs.lemmas.Bool.{cases_eq, cases_lt, eq-eqb, le-ltb, lt-ltb, ne_eqb}
use Rattle.cn_table.specs.TypeTable.{IsClosed, TypeTable, transition}
use Rattle.cn_choice.specs.declared.team.Team.{Team}
use Rattle.cn_choice.specs.declared.team.Team.TheVariants.{A, B}
use Rattle.cn_agree.proofs.Lists.{slice_get_push_cases}
use Rattle.cn_agree.proofs.OrderLemmas.{after_push, answered_last, answers_append, distinct_push}
use Rattle.cn_consensus.specs.Configuration.{put}
use Rattle.cn_consensus.specs.Consensus.{IsSchedule, occurrences}
use Rattle.cn_consensus.proofs.Alike.{put-other, put-same}
use Rattle.cn_consensus.proofs.Counting.{occurrences_other, schedule-append, total}
use Rattle.cn_proto.specs.Order.{BeginsIn, IsAnswered, IsRun, after}
use Rattle.cn_proto.specs.Tournament.{team_of}
use Rattle.cn_unread.specs.Collects.{AreLooks, LookAlike}
use Rattle.cn_unread.specs.Nodes.{BeganIn, HasFinished, IsMoveOf, IsTellingNode, Move, Node, Scene}
use Rattle.cn_unread.specs.Nodes.{moved, next_scene, scene_after}
use Rattle.cn_unread.specs.Nodes.Move.{Apply, Finish}
use Rattle.cn_unread_laws.proofs.Joining.{one_more}
use Rattle.cn_unread_laws.proofs.Pairs.{code, cyc, cyc_below, pair, uncoded, unpair, window}
use Rattle.cn_unread_laws.proofs.SignNodes.{total_drop, total_up}

total_part : (f : ℕ → ℕ) (p n : ℕ) → p < n → f p ≤ total f n
total_part f p zero l = absurd (omega (arith, l))
total_part f p (suc n) l = elim (cases_eq p n) [
  | inl s ↦ (let e = ap f s in omega (arith, e))
  | inr c ↦ omega (arith, total_part f p n (omega (arith, l, c)))
]

begins_push : (team : ℕ → Team) (y : Team) (o : List ℕ) (p : ℕ) → BeginsIn team y o
    → BeginsIn team y (o ++ p ∷ [])
begins_push team y [] p h = absurd h
begins_push team y (x ∷ o) p h = h

module _ (t : TypeTable) (closed : IsClosed t) (looks : List ℕ) (silent : AreLooks t looks)
    (a b q0 : ℕ) (op : ℕ → ℕ) (start_known : q0 < length t.states)
    (op_known : (j : ℕ) → j < a + b → op j < length t.operations)
    (visible : (j r : ℕ) (o u : List ℕ) → IsRun (a + b) (team_of a) A o
    → IsRun (a + b) (team_of a) B u → IsAnswered (λ role q. transition t (op role) q) q0 o j r
    → IsAnswered (λ role q. transition t (op role) q) q0 u j r
    → LookAlike t looks (after (λ role q. transition t (op role) q) q0 o)
    (after (λ role q. transition t (op role) q) q0 u) → ⊥) where
  abbrev roles : ℕ
  roles = a + b

  abbrev team : ℕ → Team
  team = team_of a

  abbrev act : ℕ → ℕ → ℕ × ℕ
  act role q = transition t (op role) q

  abbrev m : ℕ
  m = length looks

  abbrev states : ℕ
  states = length t.states

  -- so many responses have to fit one after the other
  abbrev goal : ℕ
  goal = total (λ j. m) roles

  abbrev look_at : ℕ → ℕ
  look_at k = slice_index looks (cyc m k)

  abbrev Fits : ℕ → ℕ → ℕ → Type 0
  Fits k s q = (transition t (look_at k) s).0 ≡ (transition t (look_at k) q).0

  pub next_guess : ℕ → ℕ
  next_guess q = cond (nat_lt (suc q) states) (suc q) 0

  pub tested : ℕ → ℕ → ℕ → ℕ → ℕ × ℕ
  tested k r q v = cond (nat_eq v (transition t (look_at k) q).0) (suc (suc k), code r q)
      (1, code r (next_guess q))

  abbrev trial : ℕ → ℕ → ℕ → Move
  trial k r q = Apply (look_at k) (λ v. tested k r q v)

  abbrev by_phase : ℕ → ℕ → ℕ → ℕ → Move
  by_phase j zero r q = Apply (op j) (λ v. (1, code v 0))
  by_phase j (suc k) r q = cond (nat_lt k goal) (trial k r q) (Finish A)

  abbrev pub collect_node : Node
  collect_node = record {
    state = q0;
    start = λ j. (0, 0);
    move = λ j x. by_phase j x.0 (unpair x.1).0 (unpair x.1).1;
  }

  -- ---- numbers

  abbrev begun_weight : ℕ → ℕ
  begun_weight zero = 0
  begun_weight (suc k) = m

  abbrev much : ℕ
  much = goal + total (λ i. goal) states

  abbrev waiting_weight : ℕ → ℕ
  waiting_weight zero = much + 1
  waiting_weight (suc k) = 0

  abbrev begun : Scene → ℕ
  begun v = total (λ j. begun_weight (v.kept j).0) roles

  abbrev still : Scene → ℕ
  still v = total (λ j. waiting_weight (v.kept j).0) roles

  abbrev top : ℕ
  top = total (λ j. much + 1) roles

  -- from one guess to a state, over the others
  way : ℕ → ℕ → ℕ
  way q s = cond (nat_lt s q) ((states - q) + s) (s - q)

  way_back : (q s : ℕ) → s < q → way q s ≡ (states - q) + s
  unfolding way
  way_back q s l = rw (lt-ltb s q l) refl

  way_on : (q s : ℕ) → q ≤ s → way q s ≡ s - q
  unfolding way
  way_on q s l = rw (le-ltb s q l) refl

  next_on : (q : ℕ) → suc q < states → next_guess q ≡ suc q
  unfolding next_guess
  next_on q l = rw (lt-ltb (suc q) states l) refl

  next_first : (q : ℕ) → states ≤ suc q → next_guess q ≡ 0
  unfolding next_guess
  next_first q l = rw (le-ltb (suc q) states l) refl

  way_short : (q s : ℕ) → q < states → s < states → way q s < states
  way_short q s lq ls = elim (cases_lt s q) [
    | inl l ↦ omega (arith, way_back q s l, l, lq)
    | inr n ↦ omega (arith, way_on q s n, ls)
  ]

  next_known : (q : ℕ) → q < states → next_guess q < states
  next_known q l = elim (cases_lt (suc q) states) [
    | inl k ↦ omega (arith, next_on q k, k)
    | inr n ↦ omega (arith, next_first q n, l)
  ]

  nearer : (q s : ℕ) → q < states → s < states → q ≢ s → suc (way (next_guess q) s) ≡ way q s
  nearer q s lq ls n = elim (cases_lt (suc q) states) [
    | inl k ↦ (let e = next_on q k in
        let f = ap (λ (z : ℕ). way z s) e in elim (cases_lt s q) [
          | inl l ↦ omega (arith, f, way_back q s l, way_back (suc q) s (omega (arith, l)), k)
          | inr o ↦ omega (arith, f, way_on q s o, way_on (suc q) s (omega (arith, o, n)), n, o)
        ])
    | inr k ↦ (let e = next_first q k in
        let f = ap (λ (z : ℕ). way z s) e in
        let l : s < q = omega (arith, k, ls, n, lq) in
        omega (arith, f, way_back q s l, way_on 0 s (omega arith), k, lq))
  ]

  abbrev far : ℕ → ℕ
  far d = total (λ i. goal) d

  far_up : (d e : ℕ) → d ≤ e → far d ≤ far e
  far_up d zero l = let z : d ≡ 0 = omega (arith, l) in
      subst (λ (k : ℕ). far k ≤ 0) (sym z) (omega arith)
  far_up d (suc e) l = elim (cases_eq d (suc e)) [
    | inl s ↦ subst (λ (k : ℕ). far k ≤ far (suc e)) (sym s) (omega arith)
    | inr n ↦ omega (arith, far_up d e (omega (arith, l, n)))
  ]

  -- the steps that are left, if the object stays in s
  abbrev left : ℕ → ℕ → ℕ → ℕ
  left q k s = (goal - k) + far (way q s)

  left_much : (q k s : ℕ) → q < states → s < states → left q k s ≤ much
  left_much q k s lq ls =
      omega (arith, far_up (way q s) states (omega (arith, way_short q s lq ls)))

  -- ---- what stays true

  abbrev Good : Team → ℕ → ℕ → ℕ → Type 0
  Good y j r q = (o : List ℕ) × IsRun roles team y o × IsAnswered act q0 o j r
      × LookAlike t looks (after act q0 o) q

  abbrev Tried : Scene → ℕ → ℕ → Type 0
  Tried v k q = (u : ℕ) × (u ≤ k) × (u + m ≤ begun v)
      × ((i : ℕ) → u ≤ i → i < k → Fits i v.object q)

  record Each (y : Team) (v : Scene) (count : ℕ) (order : List ℕ) (j k r q : ℕ) : Type 0 where
    pub answered : IsAnswered act q0 order j r
    pub guess : q < states
    pub upto : k ≤ goal
    pub some : m ≤ begun v
    pub trust : Good y j r q ⊎ Tried v k q
    pub pace : (left q k v.object + still v + count ≤ top) ⊎ (goal ≤ k)

  record Fine (y : Team) (v : Scene) (count : ℕ → ℕ) (order : List ℕ) : Type 0 where
    pub distinct : AllPairs (λ (x : ℕ) z. x ≢ z) order
    pub below : IsSchedule roles order
    pub place : v.object ≡ after act q0 order
    pub known : v.object < states
    pub waiting : (j : ℕ) → j < roles → (v.kept j).0 ≡ 0
        → ((k : ℕ) → slice_get order k ≢ Some j) × (still v + count j ≤ top)
    pub each : (j : ℕ) → j < roles → (k : ℕ) → (v.kept j).0 ≡ suc k
        → Each y v (count j) order j k (unpair (v.kept j).1).0 (unpair (v.kept j).1).1

  run_of : (y : Team) (v : Scene) (count : ℕ → ℕ) (order : List ℕ) → Fine y v count order
      → BeginsIn team y order → IsRun roles team y order
  run_of y v count order f begins = record {
    distinct = f.distinct;
    below = f.below;
    begins = begins;
  }

  -- a whole collect fits the present state
  settled : (y : Team) (v : Scene) (count : ℕ → ℕ) (order : List ℕ) → Fine y v count order
      → BeginsIn team y order → (j r q k : ℕ) → IsAnswered act q0 order j r → (z : Tried v k q)
      → z.0 + m ≤ k → Good y j r q
  settled y v count order f begins j r q k answered z long = (
    order,
    run_of y v count order f begins,
    answered,
    λ i l. (let w = window m z.0 i l in
        let e = z.3 w.0 w.1 (omega (arith, w.2, long)) in
        subst (λ (x : ℕ). (transition t (slice_index looks i) x).0
        ≡ (transition t (slice_index looks i) q).0) f.place
        (subst (λ (x : ℕ). (transition t (slice_index looks x) v.object).0
        ≡ (transition t (slice_index looks x) q).0) w.3 e)),
  )

  abbrev changed : Scene → ℕ → ℕ × ℕ → ℕ → Scene
  changed v p x u = record { object = u; kept = put v.kept p x }

  by_put : (W : ℕ → ℕ × ℕ → Type 0) (v : Scene) (p : ℕ) (x : ℕ × ℕ) → W p x
      → ((j : ℕ) → j ≢ p → W j (v.kept j)) → (j : ℕ) → W j (put v.kept p x j)
  by_put W v p x own others j = elim (cases_eq j p) [
    | inl s ↦ subst (λ (z : ℕ). W z (put v.kept p x z)) (sym s)
        (subst (W p) (sym (put-same v.kept p x)) own)
    | inr n ↦ subst (W j) (sym (put-other v.kept p x j n)) (others j n)
  ]

  abbrev Changes : Scene → Scene → Type 0
  Changes v z = ((z.object ≡ v.object) × (begun v ≤ begun z) × (still z ≤ still v))
      ⊎ ((begun v + m ≤ begun z) × (still z + (much + 1) ≤ still v))

  each_kept : (y : Team) (v z : Scene) (count : ℕ → ℕ) (order next : List ℕ)
      → Fine y v count order → ((j r : ℕ) → IsAnswered act q0 order j r → BeginsIn team y order)
      → ((j r : ℕ) → IsAnswered act q0 order j r → IsAnswered act q0 next j r) → z.object < states
      → Changes v z → (j k r q : ℕ) → Each y v (count j) order j k r q
      → Each y z (count j) next j k r q
  each_kept y v z count order next f begins more known (inl c) j k r q e = record {
    answered = more j r e.answered;
    guess = e.guess;
    upto = e.upto;
    some = omega (arith, e.some, c.1);
    trust = elim e.trust [
      | inl g ↦ inl g
      | inr d ↦ inr (
        d.0,
        d.1,
        omega (arith, d.2, c.1),
        λ i l n. subst (λ (s : ℕ). Fits i s q) (sym c.0) (d.3 i l n),
      )
    ];
    pace = elim e.pace [
      | inl l ↦ inl (let g = ap (λ (s : ℕ). left q k s) c.0 in omega (arith, l, g, c.2))
      | inr l ↦ inr l
    ];
  }
  each_kept y v z count order next f begins more known (inr c) j k r q e = record {
    answered = more j r e.answered;
    guess = e.guess;
    upto = e.upto;
    some = omega (arith, e.some, c.0);
    trust = elim e.trust [
      | inl g ↦ inl g
      | inr d ↦ elim (cases_lt k (d.0 + m)) [
        | inl l ↦ inr (
          k,
          omega arith,
          omega (arith, l, d.2, c.0),
          λ i u n. absurd (omega (arith, u, n)),
        )
        | inr l ↦ inl (settled y v count order f (begins j r e.answered) j r q k e.answered d l)
      ]
    ];
    pace = elim e.pace [
      | inl l ↦ inl (omega (arith, l, c.1, left_much q k z.object e.guess known))
      | inr l ↦ inr l
    ];
  }

  total_zero : (c n : ℕ) → c ≡ 0 → total (λ j. c) n ≡ 0
  total_zero c zero e = refl
  total_zero c (suc n) e = omega (arith, total_zero c n e, e)

  some_looks : (k : ℕ) → k < goal → 0 < m
  some_looks k l = elim (cases_eq m 0) [
    | inl z ↦ absurd (omega (arith, l, total_zero m roles z))
    | inr n ↦ omega (arith, n)
  ]

  -- ---- steps

  module _ (y : Team) (v : Scene) (count : ℕ → ℕ) (order : List ℕ) (f : Fine y v count order)
      (begins : (j r : ℕ) → IsAnswered act q0 order j r → BeginsIn team y order)
      (p : ℕ) (lp : p < roles) (count2 : ℕ → ℕ) (own_count : count2 p ≡ 1 + count p)
      (other_count : (j : ℕ) → j ≢ p → count2 j ≡ count j) where
    -- its own operation
    begin_step : (v.kept p).0 ≡ 0
        → Fine y (changed v p (1, code (act p v.object).0 0) (act p v.object).1) count2 (order ++ p ∷ [])
    begin_step e0 = record {
      distinct = distinct_push order p f.distinct (f.waiting p lp e0).0;
      below = schedule-append roles order (p ∷ []) f.below (lp, tt);
      place = ap (λ (q : ℕ). (act p q).1) f.place ∙ sym (after_push act q0 order p);
      known = known;
      waiting = λ j lj. by_put (λ j x. j < roles → x.0 ≡ 0
          → ((k : ℕ) → slice_get (order ++ p ∷ []) k ≢ Some j) × (still z + count2 j ≤ top)) v p
          (1, code r0 0) (λ l e. absurd (omega (arith, e))) (λ j n l e.
          (let w = f.waiting j l e in (
            λ k g. elim (slice_get_push_cases order p k j g) [
              | inl h ↦ w.0 k h
              | inr h ↦ n (sym h)
            ],
            omega (arith, w.1, less, other_count j n),
          ))) j lj;
      each = λ j lj. by_put (λ j x. j < roles → (k : ℕ) → x.0 ≡ suc k
          → Each y z (count2 j) (order ++ p ∷ []) j k (unpair x.1).0 (unpair x.1).1) v p
          (1, code r0 0) (λ l k e. subst (λ (w : ℕ × ℕ).
          Each y z (count2 p) (order ++ p ∷ []) p k w.0 w.1) (sym (uncoded r0 0))
          (let g : 0 ≡ k = omega (arith, e) in
          subst (λ (i : ℕ). Each y z (count2 p) (order ++ p ∷ []) p i r0 0) g own))
          (λ j n l k e. subst (λ (c : ℕ). Each y z c (order ++ p ∷ []) j k
          (unpair (v.kept j).1).0 (unpair (v.kept j).1).1) (sym (other_count j n))
          (each_kept y v z count order (order ++ p ∷ []) f begins
          (λ j r h. answers_append act q0 order (p ∷ []) j r h) known (inr (more, less)) j k _ _
          (f.each j l k e))) j lj;
    }
      where
        r0 : ℕ
        r0 = (act p v.object).0

        z : Scene
        z = changed v p (1, code (act p v.object).0 0) (act p v.object).1

        known : (act p v.object).1 < states
        known = closed (op p) v.object (op_known p lp) f.known

        more : begun v + m ≤ begun (changed v p (1, code (act p v.object).0 0) (act p v.object).1)
        more = total_drop (λ j. begun_weight (v.kept j).0) (λ j. begun_weight (put v.kept p
            (1, code (act p v.object).0 0) j).0) m p roles lp
            (by_put (λ j x. begun_weight (v.kept j).0 ≤ begun_weight x.0) v p _
            (subst (λ (c : ℕ). begun_weight c ≤ m) (sym e0) (omega arith)) (λ j n. omega arith))
            (subst (λ (x : ℕ × ℕ). begun_weight (v.kept p).0 + m ≤ begun_weight x.0)
            (sym (put-same v.kept p _))
            (subst (λ (c : ℕ). begun_weight c + m ≤ m) (sym e0) (omega arith)))

        less : still (changed v p (1, code (act p v.object).0 0) (act p v.object).1) + (much + 1)
            ≤ still v
        less = total_drop (λ j. waiting_weight (put v.kept p (1, code (act p v.object).0 0) j).0)
            (λ j. waiting_weight (v.kept j).0) (much + 1) p roles lp
            (by_put (λ j x. waiting_weight x.0 ≤ waiting_weight (v.kept j).0) v p _ (omega arith)
            (λ j n. omega arith))
            (subst (λ (x : ℕ × ℕ). waiting_weight x.0 + (much + 1) ≤ waiting_weight (v.kept p).0)
            (sym (put-same v.kept p _))
            (subst (λ (c : ℕ). 0 + (much + 1) ≤ waiting_weight c) (sym e0) (omega arith)))

        own : Each y (changed v p (1, code (act p v.object).0 0) (act p v.object).1) (count2 p)
            (order ++ p ∷ []) p 0 (act p v.object).0 0
        own = record {
          answered = subst (λ (q : ℕ). IsAnswered act q0 (order ++ p ∷ []) p (act p q).0)
              (sym f.place) (answered_last act q0 order p);
          guess = omega (arith, f.known);
          upto = omega arith;
          some = omega (arith, more);
          trust = inr (0, omega arith, omega (arith, more), λ i l n. absurd (omega (arith, n)));
          pace = inl (omega (
            arith,
            (f.waiting p lp e0).1,
            own_count,
            less,
            left_much 0 0 (act p v.object).1 (omega (arith, f.known)) known,
          ));
        }

    module _ (k : ℕ) (e0 : (v.kept p).0 ≡ suc k) where
      abbrev r : ℕ
      r = (unpair (v.kept p).1).0

      abbrev q : ℕ
      q = (unpair (v.kept p).1).1

      old : Each y v (count p) order p k (unpair (v.kept p).1).0 (unpair (v.kept p).1).1
      old = f.each p lp k e0

      -- it has finished
      finish_step : goal ≤ k → Fine y v count2 order
      finish_step l = record {
        distinct = f.distinct;
        below = f.below;
        place = f.place;
        known = f.known;
        waiting = λ j lj e. elim (cases_eq j p) [
          | inl s ↦ absurd (let g = ap (λ (i : ℕ). (v.kept i).0) s in omega (arith, e, e0, g))
          | inr n ↦ (let w = f.waiting j lj e in (w.0, omega (arith, w.1, other_count j n)))
        ];
        each = λ j lj i e. elim (cases_eq j p) [
          | inl s ↦ (let d = f.each j lj i e in record {
            answered = d.answered;
            guess = d.guess;
            upto = d.upto;
            some = d.some;
            trust = d.trust;
            pace = inr (let g = ap (λ (i : ℕ). (v.kept i).0) s in omega (arith, e, e0, g, l));
          })
          | inr n ↦ subst (λ (c : ℕ). Each y v c order j i (unpair (v.kept j).1).0
              (unpair (v.kept j).1).1) (sym (other_count j n)) (f.each j lj i e)
        ];
      }

      module _ (l : k < goal) where
        abbrev u : ℕ
        u = (transition t (look_at k) v.object).1

        same : (transition t (look_at k) v.object).1 ≡ v.object
        same = (silent (cyc m k) (cyc_below m (some_looks k l) k)).same_state v.object f.known

        test_fine : (x : ℕ × ℕ) (k2 q2 : ℕ) → x.0 ≡ suc k2
            → unpair x.1 ≡ pair (unpair (v.kept p).1).0 q2 → q2 < states → k2 ≤ goal
            → (begun v ≤ begun (changed v p x (transition t (look_at k) v.object).1)
            → Good y p (unpair (v.kept p).1).0 q2
            ⊎ Tried (changed v p x (transition t (look_at k) v.object).1) k2 q2)
            → left q2 k2 (transition t (look_at k) v.object).1 + still v + count2 p ≤ top
            → Fine y (changed v p x (transition t (look_at k) v.object).1) count2 order
        test_fine x k2 q2 shape codes guess upto trust pace = record {
          distinct = f.distinct;
          below = f.below;
          place = same ∙ f.place;
          known = known;
          waiting = λ j lj. by_put (λ j x. j < roles → x.0 ≡ 0
              → ((k : ℕ) → slice_get order k ≢ Some j) × (still z + count2 j ≤ top)) v p x
              (λ l e. absurd (omega (arith, e, shape))) (λ j n l e.
              (let w = f.waiting j l e in (w.0, omega (arith, w.1, less, other_count j n)))) j lj;
          each = λ j lj. by_put (λ j x. j < roles → (i : ℕ) → x.0 ≡ suc i
              → Each y z (count2 j) order j i (unpair x.1).0 (unpair x.1).1) v p x
              (λ l i e. subst (λ (w : ℕ × ℕ). Each y z (count2 p) order p i w.0 w.1) (sym codes)
              (let g : k2 ≡ i = omega (arith, e, shape) in
              subst (λ (i : ℕ). Each y z (count2 p) order p i (unpair (v.kept p).1).0 q2) g own))
              (λ j n l i e. subst (λ (c : ℕ). Each y z c order j i (unpair (v.kept j).1).0
              (unpair (v.kept j).1).1) (sym (other_count j n))
              (each_kept y v z count order order f begins (λ j r h. h) known
              (inl (same, more, less)) j i _ _ (f.each j l i e))) j lj;
        }
          where
            z : Scene
            z = changed v p x (transition t (look_at k) v.object).1

            known : (transition t (look_at k) v.object).1 < states
            known = omega (arith, same, f.known)

            more : begun v ≤ begun (changed v p x (transition t (look_at k) v.object).1)
            more = total_up _ _ roles (by_put (λ j x. begun_weight (v.kept j).0 ≤ begun_weight x.0)
                v p x (subst (λ (c : ℕ). begun_weight (v.kept p).0 ≤ begun_weight c) (sym shape)
                (subst (λ (c : ℕ). begun_weight c ≤ m) (sym e0) (omega arith))) (λ j n. omega arith))

            less : still (changed v p x (transition t (look_at k) v.object).1) ≤ still v
            less = total_up _ _ roles (by_put (λ j x. waiting_weight x.0
                ≤ waiting_weight (v.kept j).0) v p x
                (subst (λ (c : ℕ). waiting_weight c ≤ waiting_weight (v.kept p).0) (sym shape)
                (omega arith)) (λ j n. omega arith))

            own : Each y (changed v p x (transition t (look_at k) v.object).1) (count2 p) order p
                k2 (unpair (v.kept p).1).0 q2
            own = record {
              answered = old.answered;
              guess = guess;
              upto = upto;
              some = omega (arith, old.some, more);
              trust = trust more;
              pace = inl (omega (arith, pace, less));
            }

        paced_now : left q k v.object + still v + count p ≤ top
        paced_now = elim old.pace [
          | inl h ↦ h
          | inr h ↦ absurd (omega (arith, h, l))
        ]

        fit_step : (transition t (look_at k) v.object).0
            ≡ (transition t (look_at k) (unpair (v.kept p).1).1).0
            → Fine y (changed v p (suc (suc k), code r q) (transition t (look_at k) v.object).1)
            count2 order
        fit_step e = test_fine (suc (suc k), code r q) (suc k) q refl (uncoded r q) old.guess
            (omega (arith, l)) (λ more. elim old.trust [
              | inl g ↦ inl g
              | inr d ↦ inr (
                d.0,
                omega (arith, d.1),
                omega (arith, d.2, more),
                λ i a b.
                    subst (λ (s : ℕ). Fits i s q) (sym same) (elim (cases_eq i k) [
                      | inl s ↦ subst (λ (i : ℕ). Fits i v.object q) (sym s) e
                      | inr n ↦ d.3 i a (omega (arith, b, n))
                    ]),
              )
            ])
            (let w = ap (λ (s : ℕ). far (way q s)) same in
            omega (arith, paced_now, own_count, w, l))

        miss_step : (transition t (look_at k) v.object).0
            ≢ (transition t (look_at k) (unpair (v.kept p).1).1).0
            → Fine y (changed v p (1, code r (next_guess q)) (transition t (look_at k) v.object).1)
            count2 order
        miss_step n =
            let apart : q ≢ v.object = λ s. n (ap (λ (i : ℕ). (transition t (look_at k) i).0)
            (sym s)) in
            let near = ap far (nearer q v.object old.guess f.known apart) in
            let w = ap (λ (s : ℕ). far (way (next_guess q) s)) same in
            test_fine (1, code r (next_guess q)) 0 (next_guess q) refl (uncoded r (next_guess q))
            (next_known q old.guess) (omega arith)
            (λ more. inr (
              0,
              omega arith,
              omega (arith, old.some, more),
              λ i a b. absurd (omega (arith, b)),
            ))
            (omega (arith, paced_now, own_count, w, near, l))

        test_step : Fine y (moved t v p (trial k r q)) count2 order
        unfolding tested
        test_step = by_cases (cases_eq (transition t (look_at k) v.object).0
            (transition t (look_at k) (unpair (v.kept p).1).1).0)
          where
            by_cases : ((transition t (look_at k) v.object).0
                ≡ (transition t (look_at k) (unpair (v.kept p).1).1).0)
                ⊎ ((transition t (look_at k) v.object).0
                ≢ (transition t (look_at k) (unpair (v.kept p).1).1).0)
                → Fine y (moved t v p (trial k r q)) count2 order
            by_cases (inl e) = rw (eq-eqb _ _ e) (fit_step e)
            by_cases (inr n) = rw (ne_eqb _ _ n) (miss_step n)

  -- ---- the node

  phase_try : (j k r q : ℕ) → k < goal → by_phase j (suc k) r q ≡ trial k r q
  phase_try j k r q l = rw (lt-ltb k goal l) refl

  phase_done : (j k r q : ℕ) → goal ≤ k → by_phase j (suc k) r q ≡ Finish A
  phase_done j k r q l = rw (le-ltb k goal l) refl

  any_step : (y : Team) (v : Scene) (count : ℕ → ℕ) (order : List ℕ) → Fine y v count order
      → BeginsIn team y order → (p : ℕ) → p < roles → (count2 : ℕ → ℕ) → count2 p ≡ 1 + count p
      → ((j : ℕ) → j ≢ p → count2 j ≡ count j)
      → (next : List ℕ) × Fine y (next_scene t collect_node v p) count2 next × BeginsIn team y next
  any_step y v count order f begins p lp count2 own others = by_kept (v.kept p).0 refl
    where
      r1 : ℕ
      r1 = (unpair (v.kept p).1).0

      q1 : ℕ
      q1 = (unpair (v.kept p).1).1

      by_kept : (c : ℕ) → (v.kept p).0 ≡ c → (next : List ℕ)
          × Fine y (moved t v p (by_phase p c (unpair (v.kept p).1).0 (unpair (v.kept p).1).1)) count2
          next × BeginsIn team y next
      by_kept zero e = (
        order ++ p ∷ [],
        begin_step y v count order f (λ j r a. begins) p lp count2 own others e,
        begins_push team y order p begins,
      )
      by_kept (suc k) e = elim (cases_lt k goal) [
        | inl l ↦ (
          order,
          subst (λ (c : Move). Fine y (moved t v p c) count2 order)
              (sym (phase_try p k (unpair (v.kept p).1).0 (unpair (v.kept p).1).1 l))
              (test_step y v count order f (λ j r a. begins) p lp count2 own others k e l),
          begins,
        )
        | inr n ↦ (
          order,
          subst (λ (c : Move). Fine y (moved t v p c) count2 order)
              (sym (phase_done p k (unpair (v.kept p).1).0 (unpair (v.kept p).1).1 n))
              (finish_step y v count order f (λ j r a. begins) p lp count2 own others k e n),
          begins,
        )
      ]

  none_there : (k j : ℕ) → slice_get [] k ≡ Some j → ⊥
  none_there k j e = cc e

  opening_fine : (y : Team) → Fine y (scene_after t collect_node []) (occurrences []) []
  opening_fine y = record {
    distinct = λ i j d l u. absurd (omega (arith, u));
    below = tt;
    place = refl;
    known = start_known;
    waiting = λ j lj e. (λ k z. none_there k j z, omega arith);
    each = λ j lj k e. absurd (omega (arith, e));
  }

  good : (s : List ℕ) → IsSchedule roles s → (y : Team) → BeganIn team y s → (o : List ℕ)
      × Fine y (scene_after t collect_node s) (occurrences s) o × BeginsIn team y o
  good [] h y e = absurd e
  good (p ∷ []) h y e = (
    p ∷ [],
    begin_step y (scene_after t collect_node []) (occurrences []) [] (opening_fine y)
        (λ j r a. absurd (none_there a.0 j a.1)) p h.0 (occurrences (p ∷ [])) (one_more p [])
        (λ j n. occurrences_other p [] j (λ f. n (sym f))) refl,
    e,
  )
  good (p ∷ q ∷ s) h y e =
      let g = good (q ∷ s) h.1 y e in
      any_step y (scene_after t collect_node (q ∷ s)) (occurrences (q ∷ s)) g.0 g.1 g.2 p h.0
      (occurrences (p ∷ q ∷ s)) (one_more p (q ∷ s))
      (λ j n. occurrences_other p (q ∷ s) j (λ f. n (sym f)))

  not_yet : {X : Type 0} {o : ℕ} {k : ℕ → ℕ × ℕ} {side : Team} → Apply o k ≡ Finish side → X
  not_yet e = absurd (cc e)

  begun_most : (v : Scene) → begun v ≤ goal
  begun_most v = total_up _ _ roles (λ j. by_weight (v.kept j).0)
    where
      by_weight : (c : ℕ) → begun_weight c ≤ m
      by_weight zero = omega arith
      by_weight (suc k) = omega arith

  -- who has finished is right
  trusted : (y : Team) (v : Scene) (count : ℕ → ℕ) (order : List ℕ) → Fine y v count order
      → BeginsIn team y order → (j : ℕ) → j < roles → (side : Team)
      → collect_node.move j (v.kept j) ≡ Finish side
      → Good y j (unpair (v.kept j).1).0 (unpair (v.kept j).1).1
  trusted y v count order f begins j lj side e = by_kept (v.kept j).0 refl e
    where
      by_kept : (c : ℕ) → (v.kept j).0 ≡ c
          → by_phase j c (unpair (v.kept j).1).0 (unpair (v.kept j).1).1 ≡ Finish side
          → Good y j (unpair (v.kept j).1).0 (unpair (v.kept j).1).1
      by_kept zero g e = not_yet e
      by_kept (suc k) g e = elim (cases_lt k goal) [
        | inl l ↦ not_yet (sym (phase_try j k _ _ l) ∙ e)
        | inr n ↦ (let d = f.each j lj k g in elim d.trust [
          | inl h ↦ h
          | inr h ↦ settled y v count order f begins j _ _ k d.answered h
              (omega (arith, h.2, begun_most v, n))
        ])
      ]

  has_began : (q : ℕ) (s : List ℕ) → (y : Team) × BeganIn team y (q ∷ s)
  has_began q [] = (team q, refl)
  has_began q (k ∷ s) = has_began k s

  pub collect_telling : IsTellingNode t a b collect_node
  collect_telling = record {
    state_known = start_known;
    operations_known = λ j x lj. by_phases j lj x.0 (unpair x.1).0 (unpair x.1).1;
    bound = top + 1;
    ends = finished;
    starts = λ j lj f. not_yet f.1;
    apart = λ s u h k e g j lj fs fu same.
        (let c = good s h A e in let d = good u k B g in
        let x = trusted A (scene_after t collect_node s) (occurrences s) c.0 c.1 c.2 j lj fs.0 fs.1 in
        let z = subst (λ (x : ℕ × ℕ). Good B j (unpair x.1).0 (unpair x.1).1) (sym same)
        (trusted B (scene_after t collect_node u) (occurrences u) d.0 d.1 d.2 j lj fu.0 fu.1) in
        visible j _ x.0 z.0 x.1 z.1 x.2 z.2 (λ i l. x.3 i l ∙ sym (z.3 i l)));
  }
    where
      by_phases : (j : ℕ) → j < roles → (c r q : ℕ) → IsMoveOf t (by_phase j c r q)
      by_phases j lj zero r q = op_known j lj
      by_phases j lj (suc k) r q = elim (cases_lt k goal) [
        | inl l ↦ subst (IsMoveOf t) (sym (phase_try j k r q l))
            (silent (cyc m k) (cyc_below m (some_looks k l) k)).known
        | inr n ↦ subst (IsMoveOf t) (sym (phase_done j k r q n)) tt
      ]

      finished : (s : List ℕ) → IsSchedule roles s → (j : ℕ) → j < roles
          → top + 1 ≤ occurrences s j → HasFinished t collect_node s j
      finished [] h j lj often = absurd (omega (arith, often))
      finished (q ∷ s) h j lj often =
          let y = has_began q s in
          let g = good (q ∷ s) h y.0 y.1 in
          by_kept y.0 g.0 g.1 ((scene_after t collect_node (q ∷ s)).kept j).0 refl
        where
          by_kept : (y : Team) (o : List ℕ)
              → Fine y (scene_after t collect_node (q ∷ s)) (occurrences (q ∷ s)) o → (c : ℕ)
              → ((scene_after t collect_node (q ∷ s)).kept j).0 ≡ c → (side : Team)
              × (by_phase j c (unpair ((scene_after t collect_node (q ∷ s)).kept j).1).0
              (unpair ((scene_after t collect_node (q ∷ s)).kept j).1).1 ≡ Finish side)
          by_kept y o f zero e = absurd (omega (arith, (f.waiting j lj e).1, often))
          by_kept y o f (suc k) e = elim (f.each j lj k e).pace [
            | inl l ↦ absurd (omega (arith, l, often))
            | inr n ↦ (A, phase_done j k _ _ n)
          ]
