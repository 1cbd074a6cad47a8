-- What words show, by their last operations.
use Rattle.std.proofs.Common.{◌≡◌, ◌≢◌, ℕ, ◌+◌, ◌<◌, ◌≤◌, ◌⊎◌, inl, inr, ◌↔◌, List, [], ◌∷◌, ◌++◌, length, refl, sym, ap, ◌∙◌, subst, arith, Bool, true, false, cond, true≢false, Some, Contains, append_assoc}
use Rattle.std.specs.Prelude.{slice_index}
use Rattle.std.specs.BTreeMap.{BTreeMap, get, is_at}
use Rattle.std.specs.Cmp.Lexicographic.{slice_cmp}
use Rattle.std.specs.Ordering.{is_eq, nat_cmp}
use Rattle.std.specs.declared.cmp.Ordering.{Ordering}
use Rattle.std.specs.declared.cmp.Ordering.TheVariants.{Equal, Greater, Less}
use Rattle.std.proofs.lemmas.Map.Lookups.{exact_bytes}
use Rattle.std.proofs.lemmas.Option.{same_Some}
use Rattle.cn_table.specs.TypeTable.{IsClosed, TypeTable, transition}
use Rattle.cn_table.specs.Run.{state_after}
use Rattle.cn_stocks.specs.Words.{IsKnown}
use Rattle.cn_stocks.proofs.Times.{one_at, one_else, one_of, same_or, times_between, times_last}
use Rattle.cn_joins.proofs.Finite.{known_first, known_rest}
use Rattle.cn_stock_check.specs.Seen.{AreCounts, AreFound, AreSeen, BeginsAmong, ComesNext, HasRoom, LeadsTo, Leaves, ShowsAmong, ShowsLast}
use Rattle.cn_stock_check.specs.Sets.{IsIn}
use Rattle.cn_stock_check.proofs.SetLemmas.{Below}
use Rattle.cn_stock_check.specs.declared.seen.Seen.{Seen}

-- ---- words, and their last operations

last_of : (x : ℕ) (xs : List ℕ) → (ys : List ℕ) × (y : ℕ) × (x ∷ xs ≡ ys ++ y ∷ [])
last_of x [] = ([], x, refl)
last_of x (z ∷ zs) = let r = last_of z zs in (x ∷ r.0, r.1, ap (λ (l : List ℕ). x ∷ l) r.2)

state_last : (t : TypeTable) (s : ℕ) (front : List ℕ) (x : ℕ) → state_after t s (front ++ x ∷ []) ≡ (transition t x (state_after t s front)).1
state_last t s [] x = refl
state_last t s (y ∷ ys) x = state_last t (transition t y s).1 ys x

begins_more : (team front : List ℕ) (x : ℕ) → BeginsAmong team front → BeginsAmong team (front ++ x ∷ [])
begins_more team [] x b = absurd b
begins_more team (y ∷ ys) x b = b

begins_less : (team front : List ℕ) (x : ℕ) → BeginsAmong team (front ++ x ∷ []) → ((front ≡ []) × Contains team x) ⊎ BeginsAmong team front
begins_less team [] x b = inl (refl, b)
begins_less team (y ∷ ys) x b = inr b

known_after : (t : TypeTable) → IsClosed t → (word : List ℕ) (s : ℕ) → s < length t.states → IsKnown (length t.operations) word → state_after t s word < length t.states
known_after t closed [] s l known = l
known_after t closed (x ∷ word) s l known =
    known_after t closed word (transition t x s).1 (closed x s (known_first (length t.operations) x word known) l) (known_rest (length t.operations) x word known)

-- ---- counts with one operation less

pub record IsLess (counts less : List ℕ) (x : ℕ) : Type 0 where
  pub here : slice_index less x + 1 ≡ slice_index counts x
  pub others : (o : ℕ) → o ≢ x → slice_index less o ≡ slice_index counts o

module _ (counts less : List ℕ) (x : ℕ) (is : IsLess counts less x) where
  room_more : (front : List ℕ) → HasRoom less front → HasRoom counts (front ++ x ∷ [])
  room_more front room o = elim (same_or o x) [
    | inl e ↦ (
        let a = times_last o x front in
        let b = one_of o x (sym e) in
        let r = room o in
        let c : slice_index less o ≡ slice_index less x = ap (λ (y : ℕ). slice_index less y) e in
        let d : slice_index counts o ≡ slice_index counts x = ap (λ (y : ℕ). slice_index counts y) e in
        let h = is.here in
        omega (arith, a, b, r, c, d, h)
        )
    | inr n ↦ (
        let a = times_last o x front in
        let b = one_else o x (λ e. n (sym e)) in
        let r = room o in
        let h = is.others o n in
        omega (arith, a, b, r, h)
        )
  ]

  room_less : (front : List ℕ) → HasRoom counts (front ++ x ∷ []) → HasRoom less front
  room_less front room o = elim (same_or o x) [
    | inl e ↦ (
        let a = times_last o x front in
        let b = one_of o x (sym e) in
        let r = room o in
        let c : slice_index less o ≡ slice_index less x = ap (λ (y : ℕ). slice_index less y) e in
        let d : slice_index counts o ≡ slice_index counts x = ap (λ (y : ℕ). slice_index counts y) e in
        let h = is.here in
        omega (arith, a, b, r, c, d, h)
        )
    | inr n ↦ (
        let a = times_last o x front in
        let b = one_else o x (λ e. n (sym e)) in
        let r = room o in
        let h = is.others o n in
        omega (arith, a, b, r, h)
        )
  ]

  pub counts_less : (t : TypeTable) → AreCounts t counts → AreCounts t less
  counts_less t are o l = elim (same_or o x) [
    | inl e ↦ are o (
        let c : slice_index less o ≡ slice_index less x = ap (λ (y : ℕ). slice_index less y) e in
        let d : slice_index counts o ≡ slice_index counts x = ap (λ (y : ℕ). slice_index counts y) e in
        let h = is.here in
        omega (arith, c, d, h)
        )
    | inr n ↦ are o (let h = is.others o n in omega (arith, h, l))
  ]

known_room : (t : TypeTable) (counts word : List ℕ) → AreCounts t counts → HasRoom counts word → IsKnown (length t.operations) word
known_room t counts word are room o l = are o (let r = room o in omega (arith, r, l))

last_there : (counts front : List ℕ) (x : ℕ) → HasRoom counts (front ++ x ∷ []) → 1 ≤ slice_index counts x
last_there counts front x room = let r = room x in let a = times_last x x front in let b = one_at x in omega (arith, r, a, b)

-- ---- by the last operation

module _ (t : TypeTable) (start : ℕ) (team : List ℕ) (asked : ℕ) (counts : List ℕ) where
  -- the words that end with x
  pub record LeavesBy (q x : ℕ) : Type 0 where
    pub front : List ℕ
    pub room : HasRoom counts (front ++ x ∷ [])
    pub begins : BeginsAmong team (front ++ x ∷ [])
    pub ends : state_after t start (front ++ x ∷ []) ≡ q

  -- those in which x is the operation that is asked
  pub record AnswersBy (r q x : ℕ) : Type 0 where
    pub same : x ≡ asked
    pub front : List ℕ
    pub room : HasRoom counts (front ++ x ∷ [])
    pub begins : BeginsAmong team (front ++ x ∷ [])
    pub answer : (transition t x (state_after t start front)).0 ≡ r
    pub ends : state_after t start (front ++ x ∷ []) ≡ q

  -- those in which another one is asked before
  pub record PassesBy (r q x : ℕ) : Type 0 where
    pub before : List ℕ
    pub after : List ℕ
    pub room : HasRoom counts ((before ++ asked ∷ after) ++ x ∷ [])
    pub begins : BeginsAmong team ((before ++ asked ∷ after) ++ x ∷ [])
    pub answer : (transition t asked (state_after t start before)).0 ≡ r
    pub ends : state_after t start ((before ++ asked ∷ after) ++ x ∷ []) ≡ q

  abbrev pub ShowsBy : ℕ → ℕ → ℕ → Type 0
  ShowsBy r q x = PassesBy r q x ⊎ AnswersBy r q x

  leaves_by : (q : ℕ) (word : List ℕ) → HasRoom counts word → BeginsAmong team word → state_after t start word ≡ q → (x : ℕ) × LeavesBy q x
  leaves_by q [] room begins ends = absurd begins
  leaves_by q (y ∷ ys) room begins ends =
      let l = last_of y ys in (
        l.1,
        record {
          front = l.0;
          room = subst (λ (w : List ℕ). HasRoom counts w) l.2 room;
          begins = subst (λ (w : List ℕ). BeginsAmong team w) l.2 begins;
          ends = subst (λ (w : List ℕ). state_after t start w ≡ q) l.2 ends;
        },
      )

  from_leaves : (q : ℕ) → Leaves t start team counts q → (x : ℕ) × LeavesBy q x
  from_leaves q l = leaves_by q l.word l.room l.begins l.ends

  to_leaves : (q x : ℕ) → LeavesBy q x → Leaves t start team counts q
  to_leaves q x l = record { word = l.front ++ x ∷ []; room = l.room; begins = l.begins; ends = l.ends }

  shows_by : (r q : ℕ) (before after : List ℕ) → HasRoom counts (before ++ asked ∷ after) → BeginsAmong team (before ++ asked ∷ after)
      → (transition t asked (state_after t start before)).0 ≡ r → state_after t start (before ++ asked ∷ after) ≡ q → (x : ℕ) × ShowsBy r q x
  shows_by r q before [] room begins answer ends = (asked, inr (record { same = refl; front = before; room = room; begins = begins; answer = answer; ends = ends }))
  shows_by r q before (y ∷ ys) room begins answer ends =
      let l = last_of y ys in
      let e : before ++ asked ∷ y ∷ ys ≡ (before ++ asked ∷ l.0) ++ l.1 ∷ [] = ap (λ (w : List ℕ). before ++ asked ∷ w) l.2 ∙ sym (append_assoc before (asked ∷ l.0) (l.1 ∷ [])) in (
        l.1,
        inl (record {
          before = before;
          after = l.0;
          room = subst (λ (w : List ℕ). HasRoom counts w) e room;
          begins = subst (λ (w : List ℕ). BeginsAmong team w) e begins;
          answer = answer;
          ends = subst (λ (w : List ℕ). state_after t start w ≡ q) e ends;
        }),
      )

  from_shows : (r q : ℕ) → ShowsAmong t start team counts asked r q → (x : ℕ) × ShowsBy r q x
  from_shows r q s = shows_by r q s.before s.after s.room s.begins s.answer s.ends

  to_shows : (r q x : ℕ) → ShowsBy r q x → ShowsAmong t start team counts asked r q
  to_shows r q x (inl s) =
      let e : (s.before ++ asked ∷ s.after) ++ x ∷ [] ≡ s.before ++ asked ∷ (s.after ++ x ∷ []) = append_assoc s.before (asked ∷ s.after) (x ∷ []) in record {
        before = s.before;
        after = s.after ++ x ∷ [];
        room = subst (λ (w : List ℕ). HasRoom counts w) e s.room;
        begins = subst (λ (w : List ℕ). BeginsAmong team w) e s.begins;
        answer = s.answer;
        ends = subst (λ (w : List ℕ). state_after t start w ≡ q) e s.ends;
      }
  to_shows r q x (inr s) = record {
    before = s.front;
    after = [];
    room = subst (λ (y : ℕ). HasRoom counts (s.front ++ y ∷ [])) s.same s.room;
    begins = subst (λ (y : ℕ). BeginsAmong team (s.front ++ y ∷ [])) s.same s.begins;
    answer = subst (λ (y : ℕ). (transition t y (state_after t start s.front)).0 ≡ r) s.same s.answer;
    ends = subst (λ (y : ℕ). state_after t start (s.front ++ y ∷ []) ≡ q) s.same s.ends;
  }

  -- ---- the operation after words of one operation less

  module _ (closed : IsClosed t) (start_known : start < length t.states) (are : AreCounts t counts) (x : ℕ) (less : List ℕ) (is : IsLess counts less x) (seen : Seen) (right : AreSeen t start team less asked seen) where
    front_known : (front : List ℕ) → HasRoom less front → state_after t start front < length t.states
    front_known front room = known_after t closed front start start_known (known_room t less front (counts_less counts less x is t are) room)

    -- a state in which x comes next is left by a word of the team, or x begins
    to_front : (p : ℕ) → ComesNext start team x seen.states p → (front : List ℕ) × HasRoom less front × BeginsAmong team (front ++ x ∷ []) × (state_after t start front ≡ p)
    to_front p (inl h) = let l = (right.states p).0 h in (l.word, l.room, begins_more team l.word x l.begins, l.ends)
    to_front p (inr h) = ([], none, h.0, sym h.1)
      where
        none : HasRoom less []
        none o = omega arith

    from_front : (front : List ℕ) → HasRoom less front → BeginsAmong team (front ++ x ∷ []) → ComesNext start team x seen.states (state_after t start front)
    from_front front room begins = elim (begins_less team front x begins) [
      | inl h ↦ inr (h.1, ap (λ (w : List ℕ). state_after t start w) h.0)
      | inr b ↦ inl ((right.states (state_after t start front)).1 (record { word = front; room = room; begins = b; ends = refl }))
    ]

    pub leads_is : (q : ℕ) → LeadsTo t start team x seen.states q ↔ LeavesBy q x
    leads_is q = (
      λ h. (let f = to_front h.0 h.2 in record {
        front = f.0;
        room = room_more counts less x is f.0 f.1;
        begins = f.2;
        ends = state_last t start f.0 x ∙ (ap (λ (p : ℕ). (transition t x p).1) f.3 ∙ h.3);
      }),
      λ l. (let room = room_less counts less x is l.front l.room in
          (state_after t start l.front, front_known l.front room, from_front l.front room l.begins, sym (state_last t start l.front x) ∙ l.ends)),
    )

    pair_is : (p r q : ℕ) → (transition t x p).0 ≡ r → (transition t x p).1 ≡ q → ◌≡◌ {A = ℕ × ℕ} (transition t x p) (r, q)
    pair_is p r q a b = pairs_same (transition t x p) r q a b
      where
        pairs_same : (y : ℕ × ℕ) (r q : ℕ) → y.0 ≡ r → y.1 ≡ q → ◌≡◌ {A = ℕ × ℕ} y (r, q)
        pairs_same y r q a b = rw (← a, ← b) refl

    pub shows_last_is : (r q : ℕ) → ShowsLast t start team asked x seen r q ↔ ShowsBy r q x
    shows_last_is r q = (
      λ h. elim h [
        | inl s ↦ (let w = (right.pairs r s.0).0 s.2 in inl (record {
          before = w.before;
          after = w.after;
          room = room_more counts less x is (w.before ++ asked ∷ w.after) w.room;
          begins = begins_more team (w.before ++ asked ∷ w.after) x w.begins;
          answer = w.answer;
          ends = state_last t start (w.before ++ asked ∷ w.after) x ∙ (ap (λ (p : ℕ). (transition t x p).1) w.ends ∙ s.3);
        }))
        | inr s ↦ (let f = to_front s.1.0 s.1.2 in inr (record {
          same = s.0;
          front = f.0;
          room = room_more counts less x is f.0 f.1;
          begins = f.2;
          answer = ap (λ (p : ℕ). (transition t x p).0) f.3 ∙ ap (λ (y : ℕ × ℕ). y.0) s.1.3;
          ends = state_last t start f.0 x ∙ (ap (λ (p : ℕ). (transition t x p).1) f.3 ∙ ap (λ (y : ℕ × ℕ). y.1) s.1.3);
        }))
      ],
      λ h. elim h [
        | inl s ↦ (
            let word = s.before ++ asked ∷ s.after in
            let room = room_less counts less x is word s.room in
            inl (
              state_after t start word,
              front_known word room,
              (right.pairs r (state_after t start word)).1 (record { before = s.before; after = s.after; room = room; begins = begun s.before s.after s.begins; answer = s.answer; ends = refl }),
              sym (state_last t start word x) ∙ s.ends,
            )
            )
        | inr s ↦ (
            let room = room_less counts less x is s.front s.room in
            inr (
              s.same,
              (
                state_after t start s.front,
                front_known s.front room,
                from_front s.front room s.begins,
                pair_is (state_after t start s.front) r q s.answer (sym (state_last t start s.front x) ∙ s.ends),
              ),
            )
            )
      ],
    )
      where
        begun : (before after : List ℕ) → BeginsAmong team ((before ++ asked ∷ after) ++ x ∷ []) → BeginsAmong team (before ++ asked ∷ after)
        begun [] after b = b
        begun (y ∷ ys) after b = b

  pub none_by : (q x : ℕ) → slice_index counts x ≡ 0 → ¬ LeavesBy q x
  none_by q x z l = let h = last_there counts l.front x l.room in absurd (omega (arith, z, h))

  pub none_shown_by : (r q x : ℕ) → slice_index counts x ≡ 0 → ¬ ShowsBy r q x
  none_shown_by r q x z (inl s) = let h = last_there counts (s.before ++ asked ∷ s.after) x s.room in absurd (omega (arith, z, h))
  none_shown_by r q x z (inr s) = let h = last_there counts s.front x s.room in absurd (omega (arith, z, h))

  -- what is gathered from all operations
  pub all_seen : AreCounts t counts → (k : ℕ) → k ≡ length t.operations → (seen : Seen) → ((q : ℕ) → IsIn seen.states q ↔ Below (LeavesBy q) k)
      → ((r q : ℕ) → IsIn (slice_index seen.pairs r) q ↔ Below (ShowsBy r q) k)
      → AreSeen t start team counts asked seen
  all_seen are k e seen states pairs = record {
    states = λ q. (
      λ h. (let b = (states q).0 h in to_leaves q b.0 b.2),
      λ l. (let b = from_leaves q l in (states q).1 (b.0, known b.0 (last_there counts b.1.front b.0 b.1.room), b.1)),
    );
    pairs = λ r q. (
      λ h. (let b = (pairs r q).0 h in to_shows r q b.0 b.2),
      λ s. (let b = from_shows r q s in (pairs r q).1 (b.0, known b.0 (there r q b.0 b.1), b.1)),
    );
  }
    where
      known : (x : ℕ) → 1 ≤ slice_index counts x → x < k
      known x l = let h = are x l in omega (arith, h, e)

      there : (r q x : ℕ) → ShowsBy r q x → 1 ≤ slice_index counts x
      there r q x (inl s) = last_there counts (s.before ++ asked ∷ s.after) x s.room
      there r q x (inr s) = last_there counts s.front x s.room

-- ---- set by set

module _ (t : TypeTable) (start : ℕ) (team : List ℕ) (x : ℕ) where
  pub comes_more : (states p : ℕ) → Contains team x → (here own : Type 0) → here ↔ (IsIn states p ⊎ own) → own ↔ (p ≡ start) → here ↔ ComesNext start team x states p
  comes_more states p has here own h o = (
    λ a. elim (h.0 a) [ inl b ↦ inl b | inr b ↦ inr (has, o.0 b) ],
    λ a. h.1 (elim a [ inl b ↦ inl b | inr b ↦ inr (o.1 b.1) ]),
  )

  pub comes_same : (states p : ℕ) → ¬ Contains team x → IsIn states p ↔ ComesNext start team x states p
  comes_same states p lacks = (λ a. inl a, λ a. elim a [ inl b ↦ b | inr b ↦ absurd (lacks b.0) ])

  pub leads_by : (states before : ℕ) → ((p : ℕ) → IsIn before p ↔ ComesNext start team x states p) → (q : ℕ) (old new here : Type 0)
      → new ↔ ((p : ℕ) × (p < length t.states) × IsIn before p × ((transition t x p).1 ≡ q)) → here ↔ (old ⊎ new) → here ↔ (old ⊎ LeadsTo t start team x states q)
  leads_by states before comes q old new here n h = (
    λ a. elim (h.0 a) [ inl b ↦ inl b | inr b ↦ (let p = n.0 b in inr (p.0, p.1, (comes p.0).0 p.2, p.3)) ],
    λ a. h.1 (elim a [ inl b ↦ inl b | inr b ↦ inr (n.1 (b.0, b.1, (comes b.0).1 b.2, b.3)) ]),
  )

  pub shows_by_last : (o : ℕ) (less : Seen) (before : ℕ) → ((p : ℕ) → IsIn before p ↔ ComesNext start team x less.states p) → (r q : ℕ) (old mid here : Type 0) → x ≡ o
      → mid ↔ (old ⊎ ((p : ℕ) × (p < length t.states) × IsIn (slice_index less.pairs r) p × ((transition t x p).1 ≡ q)))
      → here ↔ (mid ⊎ ((p : ℕ) × (p < length t.states) × IsIn before p × ◌≡◌ {A = ℕ × ℕ} (transition t x p) (r, q)))
      → here ↔ (old ⊎ ShowsLast t start team o x less r q)
  shows_by_last o less before comes r q old mid here same m h = (
    λ a. elim (h.0 a) [
      | inl b ↦ elim (m.0 b) [ inl d ↦ inl d | inr d ↦ inr (inl d) ]
      | inr b ↦ inr (inr (same, (b.0, b.1, (comes b.0).0 b.2, b.3)))
    ],
    λ a. h.1 (elim a [
      | inl b ↦ inl (m.1 (inl b))
      | inr b ↦ elim b [ inl d ↦ inl (m.1 (inr d)) | inr d ↦ inr (d.1.0, d.1.1, (comes d.1.0).1 d.1.2, d.1.3) ]
    ]),
  )

pub asked_known : (t : TypeTable) (start : ℕ) (team counts : List ℕ) (o r q : ℕ) → AreCounts t counts → ShowsAmong t start team counts o r q → o < length t.operations
asked_known t start team counts o r q are s = are o (let a = s.room o in let b = times_between o o s.before s.after in let d = one_at o in omega (arith, a, b, d))

-- ---- what is found

equal_of : (o : Ordering) → is_eq o ≡ true → o ≡ Equal
equal_of Less e = absurd (true≢false (sym e))
equal_of Equal e = refl
equal_of Greater e = absurd (true≢false (sym e))

pub found_put : (t : TypeTable) (start : ℕ) (team : List ℕ) (o : ℕ) (old new : BTreeMap (List ℕ) Seen) (counts : List ℕ) (value : Seen)
    → ((q : List ℕ) → get (slice_cmp nat_cmp) new q ≡ cond (is_at (slice_cmp nat_cmp counts) q) (Some value) (get (slice_cmp nat_cmp) old q))
    → AreFound t start team o old → AreSeen t start team counts o value → AreFound t start team o new
found_put t start team o old new counts value puts found right q s e = by_test (is_at (slice_cmp nat_cmp counts) q) refl
  where
    by_test : (b : Bool) → is_at (slice_cmp nat_cmp counts) q ≡ b → AreSeen t start team q o s
    by_test true f = subst (λ (x : List ℕ). AreSeen t start team x o s) (exact_bytes counts q (equal_of (slice_cmp nat_cmp counts q) f))
        (subst (AreSeen t start team counts o) (same_Some value s (sym (puts q ∙ ap (λ (b : Bool). cond b (Some value) (get (slice_cmp nat_cmp) old q)) f) ∙ e)) right)
    by_test false f = found q s (sym (puts q ∙ ap (λ (b : Bool). cond b (Some value) (get (slice_cmp nat_cmp) old q)) f) ∙ e)
