-- Of the operations of one row a stock needs one alone.
use Rattle.std.proofs.Common.{◌≡◌, ◌≢◌, ℕ, zero, suc, ◌+◌, ◌-◌, ◌<◌, ◌≤◌, ◌⊎◌, inl, inr, List, [], ◌∷◌, ◌++◌, length, map, refl, sym, ap, ◌∙◌, subst, arith}
use Rattle.std.specs.Prelude.{slice_index, slice_index_or}
use Rattle.std.proofs.lemmas.Bool.{eq-eqb, ne_eqb}
use Rattle.std.proofs.lemmas.List.{length-map, map-append}
use Rattle.std.proofs.lemmas.Grind.{same_number_lists}
use Rattle.cn_table.specs.TypeTable.{IsRow, IsTypeTable, TypeTable, no_row, transition}
use Rattle.cn_table.specs.Run.{state_after}
use Rattle.cn_table.proofs.Rows.{all_at}
use Rattle.cn_outcomes.proofs.Packing.{below_or_last}
use Rattle.cn_stocks.specs.Splits.{AreJoined, SplitsFrom, StockSplits}
use Rattle.cn_stocks.specs.Words.{BeginsWith, HaveSame, IsKnown, IsWithin, Shows, times}
use Rattle.cn_stocks.proofs.Fewer.{beside}
use Rattle.cn_stocks.proofs.SplitLemmas.{either}
use Rattle.cn_stocks.proofs.StockLemmas.{before_or_behind}
use Rattle.cn_stocks.proofs.Times.{one, one_at, one_else, one_of, same_or, times_append, times_between, times_cons, times_none}
use Rattle.cn_stocks.proofs.WordOrders.{map_parts}
use Rattle.cn_telling.specs.Rows.{HasEarlier, HaveOneRow, RowsDiffer, SplitsByRows, in_place, next_row, replaced}

-- ---- a in place of each b

pub same_next : (t : TypeTable) (a b s : ℕ) → HaveOneRow t a b → (transition t a s).1 ≡ (transition t b s).1
same_next t a b s e = ap (λ (row : List ℕ). slice_index row s) e

pub stands_mapped : (f : ℕ → ℕ) (x : ℕ) (list : List ℕ) → 1 ≤ times x list → 1 ≤ times (f x) (map f list)
stands_mapped f x [] l = absurd (omega (arith, l, times_none x))
stands_mapped f x (y ∷ list) l = elim (same_or y x) [
  | inl e ↦ omega (arith, times_cons (f x) (f y) (map f list), one_of (f x) (f y) (ap f e))
  | inr n ↦ omega (arith, stands_mapped f x list (omega (arith, l, times_cons x y list, one_else x y n)), times_cons (f x) (f y) (map f list))
]

cons_same : (x y : ℕ) (us vs : List ℕ) → x ≡ y → us ≡ vs → x ∷ us ≡ y ∷ vs
cons_same x y us vs e g = rw (e, g) refl

module _ (a b : ℕ) (other : a ≢ b) where
  pub at_b : (x : ℕ) → x ≡ b → in_place a b x ≡ a
  at_b x e = rw (eq-eqb x b e) refl

  pub at_else : (x : ℕ) → x ≢ b → in_place a b x ≡ x
  at_else x n = rw (ne_eqb x b n) refl

  pub times_a : (list : List ℕ) → times a (replaced a b list) ≡ times a list + times b list
  times_a [] = refl
  times_a (x ∷ list) = elim (same_or x b) [
    | inl e ↦ omega (
      arith,
      times_a list,
      times_cons a (in_place a b x) (replaced a b list),
      times_cons a x list,
      times_cons b x list,
      one_of a (in_place a b x) (at_b x e),
      one_else a x (λ h. other (sym h ∙ e)),
      one_of b x e,
    )
    | inr n ↦ (
        let h : one a (in_place a b x) ≡ one a x = ap (one a) (at_else x n) in
        omega (arith, times_a list, times_cons a (in_place a b x) (replaced a b list), times_cons a x list, times_cons b x list, h, one_else b x n)
        )
  ]

  pub times_b : (list : List ℕ) → times b (replaced a b list) ≡ 0
  times_b [] = refl
  times_b (x ∷ list) = elim (same_or x b) [
    | inl e ↦ omega (arith, times_b list, times_cons b (in_place a b x) (replaced a b list), one_else b (in_place a b x) (λ h. other (sym (at_b x e) ∙ h)))
    | inr n ↦ omega (arith, times_b list, times_cons b (in_place a b x) (replaced a b list), one_else b (in_place a b x) (λ h. n (sym (at_else x n) ∙ h)))
  ]

  pub times_else : (o : ℕ) → o ≢ a → o ≢ b → (list : List ℕ) → times o (replaced a b list) ≡ times o list
  times_else o not_a not_b [] = refl
  times_else o not_a not_b (x ∷ list) = elim (same_or x b) [
    | inl e ↦ omega (
      arith,
      times_else o not_a not_b list,
      times_cons o (in_place a b x) (replaced a b list),
      times_cons o x list,
      one_else o (in_place a b x) (λ h. not_a (sym h ∙ at_b x e)),
      one_else o x (λ h. not_b (sym h ∙ e)),
    )
    | inr n ↦ (
        let h : one o (in_place a b x) ≡ one o x = ap (one o) (at_else x n) in
        omega (arith, times_else o not_a not_b list, times_cons o (in_place a b x) (replaced a b list), times_cons o x list, h)
        )
  ]

  -- what stands in the replaced stock stands in the first one, and is not b
  from_replaced : (stock : List ℕ) (o : ℕ) → 1 ≤ times a stock → 1 ≤ times o (replaced a b stock) → (1 ≤ times o stock) × (o ≢ b)
  from_replaced stock o has l = (
    elim (same_or o a) [
      | inl e ↦ subst (λ (x : ℕ). 1 ≤ times x stock) (sym e) has
      | inr n ↦ omega (arith, l, times_else o n (not_b o l) stock)
    ],
    not_b o l,
  )
    where
      not_b : (o : ℕ) → 1 ≤ times o (replaced a b stock) → o ≢ b
      not_b o l e = absurd (let h : 1 ≤ times b (replaced a b stock) = subst (λ (x : ℕ). 1 ≤ times x (replaced a b stock)) e l in omega (arith, h, times_b stock))

  -- ---- words

  -- a word with b in place of some a, by how often it can have either
  record Labelled (word : List ℕ) (m n : ℕ) : Type 0 where
    pub list : List ℕ
    pub is : replaced a b list ≡ word
    pub few_a : times a list ≤ m
    pub few_b : times b list ≤ n

  labelled : (word : List ℕ) (m n : ℕ) → times a word ≤ m + n → times b word ≡ 0 → Labelled word m n
  labelled [] m n l z = record { list = []; is = refl; few_a = omega (arith, times_none a); few_b = omega (arith, times_none b) }
  labelled (x ∷ word) m n l z = elim (same_or x a) [
    | inl e ↦ by_room e m n l (labelled word)
    | inr isnt ↦ (
        let not_b : x ≢ b = λ e. absurd (omega (arith, z, times_cons b x word, one_of b x e)) in
        let r = labelled word m n (omega (arith, l, times_cons a x word)) (omega (arith, z, times_cons b x word)) in
        record {
          list = x ∷ r.list;
          is = cons_same (in_place a b x) x (replaced a b r.list) word (at_else x not_b) r.is;
          few_a = omega (arith, r.few_a, times_cons a x r.list, one_else a x isnt);
          few_b = omega (arith, r.few_b, times_cons b x r.list, one_else b x not_b);
        }
        )
  ]
    where
      by_room : x ≡ a → (m n : ℕ) → times a (x ∷ word) ≤ m + n → ((m n : ℕ) → times a word ≤ m + n → times b word ≡ 0 → Labelled word m n) → Labelled (x ∷ word) m n
      by_room e (suc m) n l later =
          let r = later m n (omega (arith, l, times_cons a x word, one_of a x e)) (omega (arith, z, times_cons b x word)) in
          let not_b : x ≢ b = λ h. other (sym e ∙ h) in
          record {
            list = x ∷ r.list;
            is = cons_same (in_place a b x) x (replaced a b r.list) word (at_else x not_b) r.is;
            few_a = omega (arith, r.few_a, times_cons a x r.list, one_of a x e);
            few_b = omega (arith, r.few_b, times_cons b x r.list, one_else b x not_b);
          }
      by_room e zero (suc n) l later =
          let r = later zero n (omega (arith, l, times_cons a x word, one_of a x e)) (omega (arith, z, times_cons b x word)) in
          record {
            list = b ∷ r.list;
            is = cons_same (in_place a b b) x (replaced a b r.list) word (at_b b refl ∙ sym e) r.is;
            few_a = omega (arith, r.few_a, times_cons a b r.list, one_else a b (λ h. other (sym h)));
            few_b = omega (arith, r.few_b, times_cons b b r.list, one_at b);
          }
      by_room e zero zero l later = absurd (omega (arith, l, times_cons a x word, one_of a x e))

  head_of : (f : ℕ) (word : List ℕ) → BeginsWith f (replaced a b word) → (g : ℕ) × (in_place a b g ≡ f) × BeginsWith g word
  head_of f [] h = absurd h
  head_of f (x ∷ word) h = (x, h, refl)

  module _ (t : TypeTable) (row : HaveOneRow t a b) where
    pub same_state : (s : ℕ) (word : List ℕ) → state_after t s (replaced a b word) ≡ state_after t s word
    same_state s [] = refl
    same_state s (x ∷ word) = same_state (transition t (in_place a b x) s).1 word ∙ ap (λ (q : ℕ). state_after t q word) step
      where
        step : (transition t (in_place a b x) s).1 ≡ (transition t x s).1
        step = elim (same_or x b) [
          | inl e ↦ ap (λ (o : ℕ). (transition t o s).1) (at_b x e) ∙ (same_next t a b s row ∙ ap (λ (o : ℕ). (transition t o s).1) (sym e))
          | inr n ↦ ap (λ (o : ℕ). (transition t o s).1) (at_else x n)
        ]

    state_of : (s : ℕ) (list word : List ℕ) → replaced a b list ≡ word → state_after t s list ≡ state_after t s word
    state_of s list word e = sym (same_state s list) ∙ ap (λ (w : List ℕ). state_after t s w) e

    word_of : (o : ℕ) (front back before after : List ℕ) → o ≢ b → replaced a b front ≡ before → replaced a b back ≡ after → replaced a b (front ++ o ∷ back) ≡ before ++ o ∷ after
    word_of o front back before after n e g = map-append (in_place a b) front (o ∷ back) ∙ rw (e, g, at_else o n) refl

    module _ (start : ℕ) (stock : List ℕ) (has_a : 1 ≤ times a stock) where
      -- the word with b in place of some a is within the stock
      lifted_within : (o : ℕ) (list front back word : List ℕ) → o ≢ b → list ≡ front ++ back → replaced a b (front ++ o ∷ back) ≡ word → IsWithin (replaced a b stock) word
          → times a list + one a o ≤ times a stock → times b list ≤ times b stock → IsWithin stock (front ++ o ∷ back)
      lifted_within o list front back word not_b is whole within few_a few_b p = elim (same_or p a) [
        | inl e ↦ subst (λ (x : ℕ). times x (front ++ o ∷ back) ≤ times x stock) (sym e) (omega (arith, few_a, count a, times_between a o front back))
        | inr isnt ↦ elim (same_or p b) [
          | inl e ↦ subst (λ (x : ℕ). times x (front ++ o ∷ back) ≤ times x stock) (sym e) (omega (arith, few_b, count b, times_between b o front back, one_else b o not_b))
          | inr nor ↦ (
              let k : times p (replaced a b (front ++ o ∷ back)) ≡ times p word = ap (times p) whole in
              omega (arith, k, within p, times_else p isnt nor (front ++ o ∷ back), times_else p isnt nor stock)
              )
        ]
      ]
        where
          count : (p : ℕ) → times p list ≡ times p front + times p back
          count p = ap (times p) is ∙ times_append p front back

      from_parts : (f o r q : ℕ) (s : Shows t start (replaced a b stock) f o r q) → o ≢ b → (list front back : List ℕ) → list ≡ front ++ back → replaced a b front ≡ s.before → replaced a b back ≡ s.after
          → times a list + one a o ≤ times a stock → times b list ≤ times b stock → (g : ℕ) × (in_place a b g ≡ f) × Shows t start stock g o r q
      from_parts f o r q s not_b list front back is front_is back_is few_a few_b =
          let whole = word_of o front back s.before s.after not_b front_is back_is in
          let head = head_of f (front ++ o ∷ back) (subst (λ (w : List ℕ). BeginsWith f w) (sym whole) s.begins) in (
            head.0,
            head.1,
            record {
              before = front;
              after = back;
              within = lifted_within o list front back (s.before ++ o ∷ s.after) not_b is whole s.within few_a few_b;
              begins = head.2;
              answer = ap (λ (q : ℕ). (transition t o q).0) (state_of start front s.before front_is) ∙ s.answer;
              ends = state_of start (front ++ o ∷ back) (s.before ++ o ∷ s.after) whole ∙ s.ends;
            },
          )

      -- what a word within the replaced stock shows, some word within the first one shows that begins alike
      lifted : (f o r q : ℕ) → Shows t start (replaced a b stock) f o r q → (g : ℕ) × (in_place a b g ≡ f) × Shows t start stock g o r q
      lifted f o r q s =
          let not_b : o ≢ b = λ e. absurd (omega (arith, s.within b, times_between b o s.before s.after, one_of b o e, times_b stock)) in
          let room : one a o ≤ times a stock = small (same_or o a) in
          let word = labelled (s.before ++ s.after) (times a stock - one a o) (times b stock)
          (omega (arith, room, s.within a, times_between a o s.before s.after, times_append a s.before s.after, times_a stock))
          (omega (arith, s.within b, times_between b o s.before s.after, times_append b s.before s.after, times_b stock)) in
          let parts = map_parts (in_place a b) s.before s.after word.list word.is in
          from_parts f o r q s not_b word.list parts.0 parts.1 parts.2 parts.3 parts.4 (omega (arith, room, word.few_a)) word.few_b
        where
          small : (o ≡ a) ⊎ (o ≢ a) → one a o ≤ times a stock
          small (inl e) = omega (arith, one_of a o e, has_a)
          small (inr n) = omega (arith, one_else a o n)

      -- ---- the two operations are in one part

      one_within : (o y : ℕ) (rest : List ℕ) → 1 ≤ times y rest → one o y ≤ times o rest
      one_within o y rest l = elim (same_or y o) [
        | inl e ↦ (let k : 1 ≤ times o rest = subst (λ (x : ℕ). 1 ≤ times x rest) e l in omega (arith, k, one_of o y e))
        | inr n ↦ omega (arith, one_else o y n)
      ]

      -- a third operation behind one of them
      behind : (x y q : ℕ) (rest : List ℕ) → HaveSame stock (x ∷ rest) → 1 ≤ times y rest → (transition t y start).1 ≡ q → Shows t start stock y x (transition t x q).0 (transition t x q).1
      behind x y q rest same l e = record {
        before = y ∷ [];
        after = [];
        within = λ o. omega (arith, same o, one_within o y rest l, times_cons o x rest, times_cons o y (x ∷ []), times_cons o x [], times_none o);
        begins = refl;
        answer = ap (λ (s : ℕ). (transition t x s).0) e;
        ends = ap (λ (s : ℕ). (transition t x s).1) e;
      }

      module _ (many : 3 ≤ length stock) (has_b : 1 ≤ times b stock) where
        joined : AreJoined t start stock a b
        joined =
            let r = beside a b stock many has_a has_b other in
            let x = r.1.0 in
            let q = (transition t a start).1 in
            (x, (transition t x q).0, (transition t x q).1, behind x a q r.0 r.1.1 r.3 refl, behind x b q r.0 r.1.1 r.4 (sym (same_next t a b start row)))

        module _ (s : StockSplits t start stock) where
          together : s.chosen a ≡ s.chosen b
          together = elim (either (s.chosen a)) [
            | inl sure ↦ elim (either (s.chosen b)) [ inl too ↦ sure ∙ sym too | inr isnt ↦ absurd (s.apart a b sure isnt joined) ]
            | inr unsure ↦ elim (either (s.chosen b)) [
              | inl sure ↦ absurd (s.apart b a sure unsure (joined.0, joined.1, joined.2, joined.4, joined.3))
              | inr nor ↦ unsure ∙ sym nor
            ]
          ]

          alike : (x : ℕ) → s.chosen (in_place a b x) ≡ s.chosen x
          alike x = elim (same_or x b) [ inl e ↦ ap s.chosen (at_b x e) ∙ (together ∙ ap s.chosen (sym e)) | inr n ↦ ap s.chosen (at_else x n) ]

          pub splits_replaced : StockSplits t start (replaced a b stock)
          splits_replaced = record {
            chosen = s.chosen;
            inside = (in_place a b s.inside.0, stands_mapped (in_place a b) s.inside.0 stock s.inside.1, alike s.inside.0 ∙ s.inside.2);
            outside = (in_place a b s.outside.0, stands_mapped (in_place a b) s.outside.0 stock s.outside.1, alike s.outside.0 ∙ s.outside.2);
            apart = λ f g yes no j.
                let u = lifted f j.0 j.1 j.2 j.3 in
                let v = lifted g j.0 j.1 j.2 j.4 in
                s.apart u.0 v.0 (sym (alike u.0) ∙ (ap s.chosen u.1 ∙ yes)) (sym (alike v.0) ∙ (ap s.chosen v.1 ∙ no)) (j.0, j.1, j.2, u.2, v.2);
          }

-- ---- stocks without two operations of one row

pub row_or : (xs ys : List ℕ) → (xs ≡ ys) ⊎ (xs ≢ ys)
row_or [] [] = inl refl
row_or [] (y ∷ ys) = inr (λ e. absurd (cc e))
row_or (x ∷ xs) [] = inr (λ e. absurd (cc e))
row_or (x ∷ xs) (y ∷ ys) = elim (same_or x y) [
  | inr n ↦ inr (λ e. n (let head : x ≡ y = cc in head))
  | inl h ↦ elim (row_or xs ys) [ inr n ↦ inr (λ e. n (let tail : xs ≡ ys = cc in tail)) | inl g ↦ inl (cons_same x y xs ys h g) ]
]

-- an operation of the stock below the end has the row of b, or none has
earlier_or : (t : TypeTable) (stock : List ℕ) (b k : ℕ) → ((a : ℕ) × (a < k) × (1 ≤ times a stock) × HaveOneRow t a b) ⊎ (((a : ℕ) × (a < k) × (1 ≤ times a stock) × HaveOneRow t a b) → ⊥)
earlier_or t stock b zero = inr (λ h. absurd (omega (arith, h.1)))
earlier_or t stock b (suc k) = elim (earlier_or t stock b k) [
  | inl h ↦ inl (h.0, omega (arith, h.1), h.2, h.3)
  | inr none ↦ elim (before_or_behind 0 (times k stock)) [
    | inl has ↦ elim (row_or (next_row t k) (next_row t b)) [
      | inl e ↦ inl (k, omega arith, omega (arith, has), e)
      | inr n ↦ inr (λ h. elim (below_or_last h.0 k (omega (arith, h.1))) [ inl u ↦ none (h.0, u, h.2, h.3) | inr e ↦ n (subst (λ (x : ℕ). HaveOneRow t x b) e h.3) ])
    ]
    | inr lacks ↦ inr (λ h. elim (below_or_last h.0 k (omega (arith, h.1))) [
      | inl u ↦ none (h.0, u, h.2, h.3)
      | inr e ↦ absurd (let l : 1 ≤ times k stock = subst (λ (x : ℕ). 1 ≤ times x stock) e h.2 in omega (arith, l, lacks))
    ])
  ]
]

module _ (t : TypeTable) (n start : ℕ) (some : 3 ≤ n) where
  -- a stock that splits, of whose operations below the end no two have one row
  record SplitsTo (end : ℕ) : Type 0 where
    pub stock : List ℕ
    pub known : IsKnown (length t.operations) stock
    pub long : length stock ≡ n
    pub differ : (b : ℕ) → b < end → 1 ≤ times b stock → ¬ HasEarlier t stock b
    pub splits : StockSplits t start stock

  next_end : (k : ℕ) → SplitsTo k → SplitsTo (suc k)
  next_end k r = elim (before_or_behind 0 (times k r.stock)) [
    | inr lacks ↦ same (λ l. absurd (omega (arith, l, lacks)))
    | inl has ↦ elim (earlier_or t r.stock k k) [ inr none ↦ same (λ l. none) | inl h ↦ without (omega (arith, has)) h.0 h.1 h.2 h.3 ]
  ]
    where
      same : (1 ≤ times k r.stock → ¬ HasEarlier t r.stock k) → SplitsTo (suc k)
      same here = record {
        stock = r.stock;
        known = r.known;
        long = r.long;
        differ = λ b l has. elim (below_or_last b k (omega (arith, l))) [
          | inl u ↦ r.differ b u has
          | inr e ↦ subst (λ (x : ℕ). ¬ HasEarlier t r.stock x) (sym e) (here (subst (λ (x : ℕ). 1 ≤ times x r.stock) e has))
        ];
        splits = r.splits;
      }

      without : 1 ≤ times k r.stock → (a : ℕ) → a < k → 1 ≤ times a r.stock → HaveOneRow t a k → SplitsTo (suc k)
      without has a below has_a row =
          let other : a ≢ k = λ e. absurd (omega (arith, e, below)) in
          let from : (o : ℕ) → 1 ≤ times o (replaced a k r.stock) → (1 ≤ times o r.stock) × (o ≢ k) = λ o l. from_replaced a k other r.stock o has_a l in
          record {
            stock = replaced a k r.stock;
            known = λ o l. r.known o (from o l).0;
            long = length-map r.stock (in_place a k) ∙ r.long;
            differ = λ b l stands early. elim (below_or_last b k (omega (arith, l))) [
              | inl u ↦ r.differ b u (from b stands).0 (early.0, early.1, (from early.0 early.2).0, early.3)
              | inr e ↦ (from b stands).1 e
            ];
            splits = splits_replaced a k other t row start r.stock has_a (omega (arith, r.long, some)) has r.splits;
          }

  to_end : (k : ℕ) → SplitsTo 0 → SplitsTo k
  to_end zero r = r
  to_end (suc k) r = next_end k (to_end k r)

-- where some stock splits, one of as many operations does whose rows differ
pub splits_by_rows : (t : TypeTable) (n start : ℕ) → 3 ≤ n → SplitsFrom t n start → SplitsByRows t n start
splits_by_rows t n start some h =
    let r = to_end t n start some (length t.operations) (record { stock = h.0; known = h.1; long = h.2; differ = λ b l. absurd (omega (arith, l)); splits = h.3 }) in
    (r.stock, r.known, r.long, (λ b has. r.differ b (r.known b has) has), r.splits)

-- the rows of the same operations differ
pub rows_same : (t : TypeTable) (a b : List ℕ) → HaveSame a b → RowsDiffer t a → RowsDiffer t b
rows_same t a b same differ o has early = differ o (omega (arith, has, same o)) (early.0, early.1, omega (arith, early.2, same early.0), early.3)

-- rows of a table that are alike in each state are the same
pub one_row_from : (t : TypeTable) → IsTypeTable t → (a b : ℕ) → a < length t.operations → b < length t.operations → ((q : ℕ) → q < length t.states → (transition t a q).1 ≡ (transition t b q).1) → HaveOneRow t a b
one_row_from t table a b a_known b_known each = same_number_lists (next_row t a) (next_row t b) (long a a_known ∙ sym (long b b_known)) (λ q l. each q (omega (arith, l, long a a_known)))
  where
    long : (o : ℕ) → o < length t.operations → length (next_row t o) ≡ length t.states
    long o known =
        let row : IsRow (length t.states) (length t.responses) (slice_index_or t.operations o no_row) = all_at (IsRow (length t.states) (length t.responses)) t.operations o no_row known table.rows in
        row.next_len
