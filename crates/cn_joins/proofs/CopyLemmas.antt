-- A stock needs no copies of earlier operations, and of the operations of one row one alone.
use Rattle.std.proofs.Common.{◌≡◌, ◌≢◌, ℕ, zero, suc, ◌+◌, ◌<◌, ◌≤◌, ◌⊎◌, inl, inr, List, [], ◌∷◌, ◌++◌, length, map, refl, sym, ap, ◌∙◌, subst, arith, true≢false}
use Rattle.std.proofs.lemmas.List.{length-map, map-append}
use Rattle.cn_table.specs.TypeTable.{TypeTable, transition}
use Rattle.cn_table.specs.Run.{state_after}
use Rattle.cn_stocks.specs.Splits.{AreJoined, SplitsFrom, StockSplits}
use Rattle.cn_stocks.specs.Words.{BeginsWith, IsKnown, IsWithin, Shows, times}
use Rattle.cn_stocks.proofs.SplitLemmas.{joined_sym}
use Rattle.cn_stocks.proofs.StockLemmas.{before_or_behind}
use Rattle.cn_stocks.proofs.Times.{one, one_else, one_of, same_or, times_cons, times_none}
use Rattle.cn_telling.specs.Rows.{HaveOneRow, RowsDiffer, in_place, next_row, replaced}
use Rattle.cn_telling.proofs.RowLemmas.{at_b, at_else, row_or, same_next, same_state, splits_by_rows, stands_mapped, times_a, times_b, times_else}
use Rattle.cn_joins.specs.Evidence.{HasRowOfEarlier, HaveSameRows, MustBeConnected, SomeNotices, row_of}
use Rattle.cn_joins.proofs.Finite.{OrNot, both, some_below}
use Rattle.cn_joins.proofs.Soundness.{equal_from}

-- ---- copies or not

earlier_or_not : (t : TypeTable) (o : ℕ) → OrNot (HasRowOfEarlier t o)
earlier_or_not t o =
    some_below (λ p. HaveSameRows t p o) o
    (λ p l. both _ _ (row_or (row_of t p).response (row_of t o).response) (row_or (row_of t p).next (row_of t o).next))

-- ---- two operations of one row in a stock of two

module _ (t : TypeTable) (a b : ℕ) (other : a ≢ b) (row : HaveOneRow t a b) (start : ℕ) (stock : List ℕ) (long : length stock ≡ 2) (has_a : 1 ≤ times a stock) (has_b : 1 ≤ times b stock) where
  -- of three different operations two stand in a list of two
  three : (c : ℕ) → c ≢ a → c ≢ b → (list : List ℕ) → times a list + times b list + times c list ≤ length list
  three c n d [] = omega (arith, times_none a, times_none b, times_none c)
  three c n d (x ∷ list) = omega (arith, three c n d list, times_cons a x list, times_cons b x list, times_cons c x list, at_most_one x)
    where
      at_most_one : (x : ℕ) → one a x + one b x + one c x ≤ 1
      at_most_one x = elim (same_or x a) [
        | inl e ↦ omega (arith, one_of a x e, one_else b x (λ h. other (sym e ∙ h)), one_else c x (λ h. n (sym h ∙ e)))
        | inr isnt ↦ elim (same_or x b) [
          | inl e ↦ omega (arith, one_else a x isnt, one_of b x e, one_else c x (λ h. d (sym h ∙ e)))
          | inr nor ↦ elim (same_or x c) [
            | inl e ↦ omega (arith, one_else a x isnt, one_else b x nor, one_of c x e)
            | inr none ↦ omega (arith, one_else a x isnt, one_else b x nor, one_else c x none)
          ]
        ]
      ]

  one_of_both : (c : ℕ) → 1 ≤ times c stock → (c ≡ a) ⊎ (c ≡ b)
  one_of_both c l = elim (same_or c a) [
    | inl e ↦ inl e
    | inr n ↦ elim (same_or c b) [ inl e ↦ inr e | inr d ↦ absurd (omega (arith, three c n d stock, l, has_a, has_b, long)) ]
  ]

  pair_within : (x y : ℕ) → x ≢ y → 1 ≤ times x stock → 1 ≤ times y stock → IsWithin stock (x ∷ y ∷ [])
  pair_within x y n in_x in_y p = elim (same_or x p) [
    | inl e ↦ (
        let h : 1 ≤ times p stock = subst (λ (z : ℕ). 1 ≤ times z stock) e in_x in
        omega (arith, h, times_cons p x (y ∷ []), times_cons p y [], times_none p, one_of p x e, one_else p y (λ g. n (e ∙ sym g)))
        )
    | inr d ↦ elim (same_or y p) [
      | inl e ↦ (
          let h : 1 ≤ times p stock = subst (λ (z : ℕ). 1 ≤ times z stock) e in_y in
          omega (arith, h, times_cons p x (y ∷ []), times_cons p y [], times_none p, one_else p x d, one_of p y e)
          )
      | inr d2 ↦ omega (arith, times_cons p x (y ∷ []), times_cons p y [], times_none p, one_else p x d, one_else p y d2)
    ]
  ]

  -- a that does not notice itself sees the same before b and behind it
  joined : ((transition t a start).0 ≡ (transition t a (transition t a start).1).0) → AreJoined t start stock a b
  joined still =
      let back : (transition t b start).1 ≡ (transition t a start).1 = sym (same_next t a b start row) in
      let behind : (transition t b (transition t a start).1).1 ≡ (transition t a (transition t a start).1).1 = sym (same_next t a b (transition t a start).1 row) in (
        a,
        (transition t a start).0,
        (transition t b (transition t a start).1).1,
        record { before = []; after = b ∷ []; within = pair_within a b other has_a has_b; begins = refl; answer = refl; ends = refl },
        record {
          before = b ∷ [];
          after = [];
          within = pair_within b a (λ e. other (sym e)) has_b has_a;
          begins = refl;
          answer = ap (λ (s : ℕ). (transition t a s).0) back ∙ sym still;
          ends = ap (λ (s : ℕ). (transition t a s).1) back ∙ sym behind;
        },
      )

  together : (s : StockSplits t start stock) → AreJoined t start stock a b → s.chosen a ≡ s.chosen b
  together s j = equal_from (s.chosen a) (s.chosen b) (λ yes no. s.apart a b yes no j) (λ yes no. s.apart b a yes no (joined_sym t start stock a b j))

  alike : (s : StockSplits t start stock) → s.chosen a ≡ s.chosen b → (c : ℕ) → 1 ≤ times c stock → s.chosen c ≡ s.chosen a
  alike s e c l = elim (one_of_both c l) [ inl h ↦ ap s.chosen h | inr h ↦ ap s.chosen h ∙ sym e ]

  not_split : ((transition t a start).0 ≡ (transition t a (transition t a start).1).0) → ¬ StockSplits t start stock
  not_split still s =
      let e = together s (joined still) in
      true≢false (sym s.inside.2 ∙ (alike s e s.inside.0 s.inside.1 ∙ (sym (alike s e s.outside.0 s.outside.1) ∙ s.outside.2)))

-- ---- the operation b, and a with the same row

module _ (t : TypeTable) (a b : ℕ) (other : a ≢ b) (same : HaveSameRows t a b) where
  turned : b ≢ a
  turned e = other (sym e)

  one_row : HaveOneRow t a b
  one_row = same.1

  row_back : HaveOneRow t b a
  row_back = sym same.1

  same_move : (s : ℕ) → transition t b s ≡ transition t a s
  same_move s = rw (same.0, same.1) refl

  move_in_place : (o s : ℕ) → transition t (in_place b a o) s ≡ transition t o s
  move_in_place o s = elim (same_or o a) [
    | inl e ↦ ap (λ (x : ℕ). transition t x s) (at_b b a turned o e) ∙ (same_move s ∙ ap (λ (x : ℕ). transition t x s) (sym e))
    | inr n ↦ ap (λ (x : ℕ). transition t x s) (at_else b a turned o n)
  ]

  back : (x : ℕ) → x ≢ a → in_place b a (in_place a b x) ≡ x
  back x n = elim (same_or x b) [
    | inl e ↦ ap (in_place b a) (at_b a b other x e) ∙ (at_b b a turned a refl ∙ sym e)
    | inr d ↦ ap (in_place b a) (at_else a b other x d) ∙ at_else b a turned x n
  ]

  -- ---- where a does not stand in the stock

  module _ (start : ℕ) (stock : List ℕ) (lacks : times a stock ≡ 0) where
    within_back : (word : List ℕ) → IsWithin (replaced a b stock) word → IsWithin stock (replaced b a word)
    within_back word w p = elim (same_or p b) [
      | inl e ↦ subst (λ (x : ℕ). times x (replaced b a word) ≤ times x stock) (sym e)
          (omega (arith, times_a b a turned word, w a, w b, times_a a b other stock, times_b a b other stock, lacks))
      | inr n ↦ elim (same_or p a) [
        | inl e ↦ subst (λ (x : ℕ). times x (replaced b a word) ≤ times x stock) (sym e) (omega (arith, times_b b a turned word))
        | inr d ↦ omega (arith, times_else b a turned p n d word, w p, times_else a b other p d n stock)
      ]
    ]

    begins_back : (f : ℕ) (before : List ℕ) (o : ℕ) (after : List ℕ) → BeginsWith f (before ++ o ∷ after)
        → BeginsWith (in_place b a f) (map (in_place b a) before ++ in_place b a o ∷ map (in_place b a) after)
    begins_back f [] o after h = ap (in_place b a) h
    begins_back f (x ∷ before) o after h = ap (in_place b a) h

    shows_back : (f o r q : ℕ) → Shows t start (replaced a b stock) f o r q → Shows t start stock (in_place b a f) (in_place b a o) r q
    shows_back f o r q s =
        let whole : map (in_place b a) (s.before ++ o ∷ s.after) ≡ map (in_place b a) s.before ++ in_place b a o ∷ map (in_place b a) s.after = map-append (in_place b a) s.before (o ∷ s.after) in record {
          before = map (in_place b a) s.before;
          after = map (in_place b a) s.after;
          within = subst (IsWithin stock) whole (within_back (s.before ++ o ∷ s.after) s.within);
          begins = begins_back f s.before o s.after s.begins;
          answer = ap (λ (m : ℕ × ℕ). m.0) (move_in_place o (state_after t start (map (in_place b a) s.before)))
              ∙ (ap (λ (p : ℕ). (transition t o p).0) (same_state b a turned t row_back start s.before) ∙ s.answer);
          ends = ap (state_after t start) (sym whole) ∙ (same_state b a turned t row_back start (s.before ++ o ∷ s.after) ∙ s.ends);
        }

    not_a : (x : ℕ) → 1 ≤ times x stock → x ≢ a
    not_a x l e = absurd (let h : 1 ≤ times a stock = subst (λ (y : ℕ). 1 ≤ times y stock) e l in omega (arith, h, lacks))

    splits_renamed : StockSplits t start stock → StockSplits t start (replaced a b stock)
    splits_renamed s = record {
      chosen = λ x. s.chosen (in_place b a x);
      inside = (in_place a b s.inside.0, stands_mapped (in_place a b) s.inside.0 stock s.inside.1, ap s.chosen (back s.inside.0 (not_a s.inside.0 s.inside.1)) ∙ s.inside.2);
      outside = (in_place a b s.outside.0, stands_mapped (in_place a b) s.outside.0 stock s.outside.1, ap s.chosen (back s.outside.0 (not_a s.outside.0 s.outside.1)) ∙ s.outside.2);
      apart = λ f g yes no j.
          s.apart (in_place b a f) (in_place b a g) yes no (in_place b a j.0, j.1, j.2, shows_back f j.0 j.1 j.2 j.3, shows_back g j.0 j.1 j.2 j.4);
    }

    -- what else stands in the new stock stands in the old one, and is not b
    stood : (o : ℕ) → o ≢ a → 1 ≤ times o (replaced a b stock) → (1 ≤ times o stock) × (o ≢ b)
    stood o n l = elim (same_or o b) [
      | inl e ↦ absurd (let h : 1 ≤ times b (replaced a b stock) = subst (λ (x : ℕ). 1 ≤ times x (replaced a b stock)) e l in omega (arith, h, times_b a b other stock))
      | inr d ↦ (omega (arith, l, times_else a b other o n d stock), d)
    ]

    module _ (differ : RowsDiffer t stock) (has_b : 1 ≤ times b stock) where
      none_alike : (o : ℕ) → 1 ≤ times o stock → o ≢ b → ¬ HaveOneRow t o b
      none_alike o has n row = elim (before_or_behind o b) [
        | inl l ↦ differ b has_b (o, l, has, row)
        | inr l ↦ differ o has (b, omega (arith, l, n), has_b, sym row)
      ]

      rows_renamed : RowsDiffer t (replaced a b stock)
      rows_renamed o stands early = elim (same_or o a) [
        | inl e ↦ (
            let p = stood early.0 (λ h. absurd (omega (arith, h, e, early.1))) early.2 in
            none_alike early.0 p.0 p.1 (early.3 ∙ (ap (next_row t) e ∙ one_row))
            )
        | inr n ↦ elim (same_or early.0 a) [
          | inl e ↦ (let p = stood o n stands in none_alike o p.0 p.1 (sym early.3 ∙ (ap (next_row t) e ∙ one_row)))
          | inr d ↦ differ o (stood o n stands).0 (early.0, early.1, (stood early.0 d early.2).0, early.3)
        ]
      ]

-- ---- a in place of b

module _ (t : TypeTable) (n start : ℕ) (two : 2 ≤ n) (quiet : n ≡ 2 → ¬ SomeNotices t) (start_known : start < length t.states) where
  still : n ≡ 2 → (a : ℕ) → a < length t.operations → (transition t a start).0 ≡ (transition t a (transition t a start).1).0
  still e a l = elim (same_or (transition t a start).0 (transition t a (transition t a start).1).0) [ inl h ↦ h | inr notices ↦ absurd (quiet e (start, start_known, (a, l, notices))) ]

  -- the rows of a stock of two that splits differ
  differ_of_two : n ≡ 2 → (stock : List ℕ) → IsKnown (length t.operations) stock → length stock ≡ n → StockSplits t start stock → RowsDiffer t stock
  differ_of_two e stock known long s b has_b early =
      let a = early.0 in
      not_split t a b (λ h. absurd (omega (arith, h, early.1))) early.3 start stock (long ∙ e) early.2 has_b (still e a (known a early.2)) s

  -- a stock that splits, no operation of which, from the end on, is a copy of an earlier one
  record SplitsFromEnd (end : ℕ) : Type 0 where
    pub stock : List ℕ
    pub known : IsKnown (length t.operations) stock
    pub long : length stock ≡ n
    pub none : (o : ℕ) → end ≤ o → 1 ≤ times o stock → ¬ HasRowOfEarlier t o
    pub differ : RowsDiffer t stock
    pub splits : StockSplits t start stock

  one_less : (k : ℕ) → SplitsFromEnd (suc k) → SplitsFromEnd k
  one_less k r = elim (before_or_behind 0 (times k r.stock)) [
    | inr lacks ↦ kept (λ l. absurd (omega (arith, l, lacks)))
    | inl has ↦ elim (earlier_or_not t k) [ inr none ↦ kept (λ l. none) | inl h ↦ without (omega (arith, has)) h.0 h.1 h.2 ]
  ]
    where
      kept : (1 ≤ times k r.stock → ¬ HasRowOfEarlier t k) → SplitsFromEnd k
      kept here = record {
        stock = r.stock;
        known = r.known;
        long = r.long;
        none = λ o l has. elim (same_or o k) [
          | inl e ↦ subst (λ (x : ℕ). ¬ HasRowOfEarlier t x) (sym e) (here (subst (λ (x : ℕ). 1 ≤ times x r.stock) e has))
          | inr d ↦ r.none o (omega (arith, l, d)) has
        ];
        differ = r.differ;
        splits = r.splits;
      }

      without : 1 ≤ times k r.stock → (a : ℕ) → a < k → HaveSameRows t a k → SplitsFromEnd k
      without has a below same =
          let k_known = r.known k has in
          let d : a ≢ k = λ e. absurd (omega (arith, e, below)) in
          let lacks : times a r.stock ≡ 0 = elim (before_or_behind 0 (times a r.stock)) [
            | inl some ↦ absurd (r.differ k has (a, below, omega (arith, some), same.1))
            | inr none ↦ omega (arith, none)
          ] in
          record {
            stock = replaced a k r.stock;
            known = λ o l. elim (same_or o a) [
              | inl e ↦ omega (arith, e, below, k_known)
              | inr m ↦ elim (same_or o k) [ inl e ↦ omega (arith, e, k_known) | inr i ↦ r.known o (omega (arith, l, times_else a k d o m i r.stock)) ]
            ];
            long = length-map r.stock (in_place a k) ∙ r.long;
            none = λ o l stands. elim (same_or o k) [
              | inl e ↦ absurd (let h : 1 ≤ times k (replaced a k r.stock) = subst (λ (x : ℕ). 1 ≤ times x (replaced a k r.stock)) e stands in omega (arith, h, times_b a k d r.stock))
              | inr m ↦ r.none o (omega (arith, l, m)) (omega (arith, stands, times_else a k d o (λ e. absurd (omega (arith, e, below, l))) m r.stock))
            ];
            differ = rows_renamed t a k d same start r.stock lacks r.differ has;
            splits = splits_renamed t a k d same start r.stock lacks r.splits;
          }

  to_start : (k : ℕ) → SplitsFromEnd k → SplitsFromEnd 0
  to_start zero r = r
  to_start (suc k) r = to_start k (one_less k r)

  -- where some stock splits, one does of as many operations that must be connected
  pub to_connect : SplitsFrom t n start → (stock : List ℕ) × IsKnown (length t.operations) stock × (length stock ≡ n) × MustBeConnected t stock × StockSplits t start stock
  to_connect h = elim (same_or n 2) [
    | inl e ↦ from h.0 h.1 h.2 (differ_of_two e h.0 h.1 h.2 h.3) h.3
    | inr more ↦ (let r = splits_by_rows t n start (omega (arith, two, more)) h in from r.0 r.1 r.2 r.3 r.4)
  ]
    where
      from : (stock : List ℕ) → IsKnown (length t.operations) stock → length stock ≡ n → RowsDiffer t stock → StockSplits t start stock
          → (stock : List ℕ) × IsKnown (length t.operations) stock × (length stock ≡ n) × MustBeConnected t stock × StockSplits t start stock
      from stock known long differ splits =
          let r = to_start (length t.operations) (record {
            stock = stock;
            known = known;
            long = long;
            none = λ o l has. absurd (let k = known o has in omega (arith, k, l));
            differ = differ;
            splits = splits;
          }) in
          (r.stock, r.known, r.long, record { no_copies = λ o has. r.none o (omega arith) has; rows_differ = r.differ }, r.splits)
