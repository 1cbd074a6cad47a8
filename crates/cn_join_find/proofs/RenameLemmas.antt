-- Joins of some of a type's operations, under their numbers in the type.
use Rattle.std.proofs.Common.{◌≡◌, ℕ, ◌<◌, ◌≤◌, inl, inr, List, [], ◌∷◌, length, map, refl, sym, ap, ◌∙◌, subst, arith, All, Bool, Contains}
use Rattle.std.specs.Prelude.{slice_index, slice_index_or}
use Rattle.std.proofs.lemmas.List.{get_or-map, length-map}
use Rattle.std.proofs.lemmas.List.Elements.{All-contains, All-map, All-weaker}
use Rattle.std.proofs.lemmas.Grind.{same_number_lists}
use Rattle.cn_table.specs.Restriction.{with_operations}
use Rattle.cn_table.specs.Run.{responses_along, state_after}
use Rattle.cn_table.specs.TypeTable.{IsRow, IsTypeTable, Row, TypeTable, no_row, transition}
use Rattle.cn_table.proofs.Rows.{all_at}
use Rattle.cn_choice.proofs.ListLemmas.Members.{Contains-from_IsIn, IsIn-from_Contains, IsIn-map}
use Rattle.cn_copies.specs.Copies.{AreFirst, IsCopy}
use Rattle.cn_copies.proofs.Picked.{picked_at, picked_step, place, place_at}
use Rattle.cn_stocks.specs.Words.{IsKnown, IsWithin, times}
use Rattle.cn_stocks.proofs.StockLemmas.{before_or_behind}
use Rattle.cn_stocks.proofs.Times.{one_else, one_of, same_or, times_at, times_cons, times_none}
use Rattle.cn_telling.specs.Rows.{next_row}
use Rattle.cn_joins.specs.Evidence.{ConnectAll, HasRowOfEarlier, MustBeConnected, row_of}
use Rattle.cn_joins.specs.Joins.{Connect, IsJoin, IsJoinWithin, IsPlacedWord, Join, KeepsApart, PlacedWord, pair_of_word}
use Rattle.cn_join_find.specs.Renaming.{IsOfFirst, renamed, renamed_placed}

-- ---- lists that are mapped

times_no_fewer : (f : ℕ → ℕ) (x : ℕ) (xs : List ℕ) → times x xs ≤ times (f x) (map f xs)
times_no_fewer f x [] = omega (arith, times_none x)
times_no_fewer f x (y ∷ xs) = elim (same_or y x) [
  | inl e ↦ omega (arith, times_no_fewer f x xs, times_cons x y xs, times_cons (f x) (f y) (map f xs), one_of x y e, one_of (f x) (f y) (ap f e))
  | inr n ↦ omega (arith, times_no_fewer f x xs, times_cons x y xs, times_cons (f x) (f y) (map f xs), one_else x y n)
]

-- where no other number of the list has the same image
times_no_more : (f : ℕ → ℕ) (x : ℕ) (xs : List ℕ) → ((y : ℕ) → 1 ≤ times y xs → f y ≡ f x → y ≡ x) → times (f x) (map f xs) ≤ times x xs
times_no_more f x [] alone = omega (arith, times_none (f x))
times_no_more f x (y ∷ xs) alone =
    let later = times_no_more f x xs (λ z l. alone z (omega (arith, l, times_cons z y xs))) in
    elim (same_or (f y) (f x)) [
      | inl e ↦ omega (arith, later, times_cons x y xs, times_cons (f x) (f y) (map f xs), one_of x y (alone y (times_at y xs) e), one_of (f x) (f y) e)
      | inr n ↦ omega (arith, later, times_cons x y xs, times_cons (f x) (f y) (map f xs), one_else (f x) (f y) n)
    ]

-- what stands in the mapped list is the image of what stands in the list
image_of : (f : ℕ → ℕ) (y : ℕ) (xs : List ℕ) → 1 ≤ times y (map f xs) → (x : ℕ) × (1 ≤ times x xs) × (f x ≡ y)
image_of f y [] l = absurd (omega (arith, l, times_none y))
image_of f y (x ∷ xs) l = elim (same_or (f x) y) [
  | inl e ↦ (x, times_at x xs, e)
  | inr n ↦ (let r = image_of f y xs (omega (arith, l, times_cons y (f x) (map f xs), one_else y (f x) n)) in (r.0, omega (arith, r.1, times_cons r.0 x xs), r.2))
]

cons_same : (x y : ℕ) (us vs : List ℕ) → x ≡ y → us ≡ vs → x ∷ us ≡ y ∷ vs
cons_same x y us vs e g = rw (e, g) refl

there_and_back : (f g : ℕ → ℕ) (xs : List ℕ) → ((x : ℕ) → 1 ≤ times x xs → g (f x) ≡ x) → map g (map f xs) ≡ xs
there_and_back f g [] h = refl
there_and_back f g (x ∷ xs) h =
    cons_same (g (f x)) x (map g (map f xs)) xs (h x (times_at x xs)) (there_and_back f g xs (λ y l. h y (omega (arith, l, times_cons y x xs))))

contains_map : (f : Join → Join) (join : Join) (joins : List Join) → Contains joins join → Contains (map f joins) (f join)
contains_map f join joins has = Contains-from_IsIn (f join) (map f joins) (IsIn-map f join joins (IsIn-from_Contains join joins has))

-- ---- a copy has the row of an earlier operation

pub copy_has_row : (t : TypeTable) → IsTypeTable t → (o : ℕ) → o < length t.operations → IsCopy t o → HasRowOfEarlier t o
copy_has_row t table o known (p, below, same) =
    let a = row p (omega (arith, below, known)) in
    let b = row o known in (
      p,
      below,
      (
        same_number_lists (row_of t p).response (row_of t o).response (a.response_len ∙ sym b.response_len)
            (λ q l. ap (λ (pair : ℕ × ℕ). pair.0) (same q (omega (arith, l, a.response_len)))),
        same_number_lists (row_of t p).next (row_of t o).next (a.next_len ∙ sym b.next_len) (λ q l. ap (λ (pair : ℕ × ℕ). pair.1) (same q (omega (arith, l, a.next_len)))),
      ),
    )
  where
    row : (o : ℕ) → o < length t.operations → IsRow (length t.states) (length t.responses) (row_of t o)
    row o known = all_at (IsRow (length t.states) (length t.responses)) t.operations o no_row known table.rows

-- ---- the type with some of its operations

module _ (t : TypeTable) (kept : List ℕ) where
  abbrev pick : ℕ → Row
  pick o = slice_index_or t.operations o no_row

  known_below : (word : List ℕ) → IsKnown (length (with_operations t kept).operations) word → IsKnown (length kept) word
  known_below word known o l = omega (arith, known o l, length-map kept pick)

  responses_same : (q : ℕ) (word : List ℕ) → IsKnown (length kept) word → responses_along (with_operations t kept) q word ≡ responses_along t q (map (slice_index kept) word)
  responses_same q [] known = refl
  responses_same q (o ∷ word) known =
      ap (λ (rs : List ℕ). (transition (with_operations t kept) o q).0 ∷ rs)
      (responses_same (transition (with_operations t kept) o q).1 word (λ x l. known x (omega (arith, l, times_cons x o word))))
      ∙ ap (λ (p : ℕ × ℕ). p.0 ∷ responses_along t p.1 (map (slice_index kept) word)) (picked_step t kept o q (known o (times_at o word)))

  state_same : (q : ℕ) (word : List ℕ) → IsKnown (length kept) word → state_after (with_operations t kept) q word ≡ state_after t q (map (slice_index kept) word)
  state_same q [] known = refl
  state_same q (o ∷ word) known =
      state_same (transition (with_operations t kept) o q).1 word (λ x l. known x (omega (arith, l, times_cons x o word)))
      ∙ ap (λ (p : ℕ × ℕ). state_after t p.1 (map (slice_index kept) word)) (picked_step t kept o q (known o (times_at o word)))

  abbrev shown : ℕ → List ℕ → ℕ → ℕ × ℕ
  shown place responses state = (slice_index responses place, state)

  shown_same : (place : ℕ) (rs xs : List ℕ) (s q : ℕ) → rs ≡ xs → s ≡ q → shown place rs s ≡ shown place xs q
  shown_same place rs xs s q e g = rw (e, g) refl

  pair_same : (start : ℕ) (w : PlacedWord) → IsKnown (length kept) w.word → pair_of_word (with_operations t kept) start w ≡ pair_of_word t start (renamed_placed kept w)
  pair_same start w known =
      shown_same w.place (responses_along (with_operations t kept) start w.word) (responses_along t start (map (slice_index kept) w.word)) (state_after (with_operations t kept) start w.word)
      (state_after t start (map (slice_index kept) w.word)) (responses_same start w.word known) (state_same start w.word known)

  pub of_first : (joins : List Join) → All (IsJoin (with_operations t kept)) joins → All (IsOfFirst (length kept)) joins
  of_first joins are = All-weaker (IsJoin (with_operations t kept)) (IsOfFirst (length kept))
      (λ join is. record { first = known_below join.first.word is.first.known; second = known_below join.second.word is.second.known }) joins are

  module _ (known : All (λ o. o < length t.operations) kept) where
    placed_renamed : (w : PlacedWord) → IsPlacedWord (with_operations t kept) w → IsPlacedWord t (renamed_placed kept w)
    placed_renamed w is = record {
      known = λ o l. (let r = image_of (slice_index kept) o w.word l in
          subst (λ (x : ℕ). x < length t.operations) r.2 (known r.0 0 (known_below w.word is.known r.0 r.1)));
      has_place = omega (arith, is.has_place, length-map w.word (slice_index kept));
    }

    join_renamed : (join : Join) → IsJoin (with_operations t kept) join → IsJoin t (renamed kept join)
    join_renamed join is = record {
      start_known = is.start_known;
      first = placed_renamed join.first is.first;
      second = placed_renamed join.second is.second;
      same_operation = get_or-map (slice_index kept) join.first.word join.first.place 0 0 is.first.has_place
          ∙ (ap (slice_index kept) is.same_operation ∙ sym (get_or-map (slice_index kept) join.second.word join.second.place 0 0 is.second.has_place));
      same_pair = sym (pair_same join.start join.first (known_below join.first.word is.first.known))
          ∙ (is.same_pair ∙ pair_same join.start join.second (known_below join.second.word is.second.known));
    }

    pub joins_renamed : (joins : List Join) → All (IsJoin (with_operations t kept)) joins → All (IsJoin t) (map (renamed kept) joins)
    joins_renamed joins are = All-map (IsJoin t) (renamed kept) joins (All-weaker (IsJoin (with_operations t kept)) (λ join. IsJoin t (renamed kept join)) join_renamed joins are)

  -- ---- stocks that must be connected

  module _ (table : IsTypeTable t) (first : AreFirst t kept) where
    one_number : (x y : ℕ) → x < length kept → y < length kept → slice_index kept x ≡ slice_index kept y → x ≡ y
    one_number x y x_known y_known e = elim (before_or_behind x y) [
      | inl l ↦ absurd (omega (arith, e, first.are.ascending x y 0 l y_known))
      | inr u ↦ elim (before_or_behind y x) [ inl l ↦ absurd (omega (arith, e, first.are.ascending y x 0 l x_known)) | inr v ↦ omega (arith, u, v) ]
    ]

    module _ (stock : List ℕ) (in_table : IsKnown (length t.operations) stock) (must : MustBeConnected t stock) where
      abbrev small : List ℕ
      small = map (λ o. place o kept) stock

      stands : (o : ℕ) → 1 ≤ times o stock → (place o kept < length kept) × (slice_index kept (place o kept) ≡ o)
      stands o l = place_at o kept (IsIn-from_Contains o kept ((first.each o).1 (in_table o l, λ copy. must.no_copies o l (copy_has_row t table o (in_table o l) copy))))

      back : map (slice_index kept) small ≡ stock
      back = there_and_back (λ o. place o kept) (slice_index kept) stock (λ o l. (stands o l).1)

      small_known : IsKnown (length (with_operations t kept).operations) small
      small_known i l = let r = image_of (λ o. place o kept) i stock l in omega (arith, (stands r.0 r.1).0, r.2, length-map kept pick)

      row_same : (i : ℕ) → i < length kept → row_of (with_operations t kept) i ≡ row_of t (slice_index kept i)
      row_same i l = picked_at t.operations kept i l

      -- an operation of the new stock, under its number in the type
      number_of : (i : ℕ) → 1 ≤ times i small → (i < length kept) × (1 ≤ times (slice_index kept i) stock)
      number_of i l =
          let r = image_of (λ o. place o kept) i stock l in
          let at = stands r.0 r.1 in
          (omega (arith, at.0, r.2), subst (λ (o : ℕ). 1 ≤ times o stock) (sym at.1 ∙ ap (slice_index kept) r.2) r.1)

      response_same : (i : ℕ) → i < length kept → (row_of (with_operations t kept) i).response ≡ (row_of t (slice_index kept i)).response
      response_same i l = ap (λ (row : Row). row.response) (row_same i l)

      next_same : (i : ℕ) → i < length kept → next_row (with_operations t kept) i ≡ next_row t (slice_index kept i)
      next_same i l = ap (λ (row : Row). row.next) (row_same i l)

      small_must : MustBeConnected (with_operations t kept) small
      small_must = record {
        no_copies = λ i l copy.
            let known = (number_of i l).0 in
            let early : copy.0 < length kept = omega (arith, copy.1, known) in
            must.no_copies (slice_index kept i) (number_of i l).1 (
              slice_index kept copy.0,
              first.are.ascending copy.0 i 0 copy.1 known,
              (sym (response_same copy.0 early) ∙ (copy.2.0 ∙ response_same i known), sym (next_same copy.0 early) ∙ (copy.2.1 ∙ next_same i known)),
            );
        rows_differ = λ i l other.
            let known = (number_of i l).0 in
            let early = number_of other.0 other.2 in
            must.rows_differ (slice_index kept i) (number_of i l).1 (
              slice_index kept other.0,
              first.are.ascending other.0 i 0 other.1 known,
              early.1,
              sym (next_same other.0 early.0) ∙ (other.3 ∙ next_same i known),
            );
      }

      within_renamed : (word : List ℕ) → IsKnown (length kept) word → IsWithin small word → IsWithin stock (map (slice_index kept) word)
      within_renamed word known within o = elim (before_or_behind 0 (times o (map (slice_index kept) word))) [
        | inr lacks ↦ omega (arith, lacks)
        | inl has ↦ (
            let r = image_of (slice_index kept) o word (omega (arith, has)) in
            let x = r.0 in
            let same : times (slice_index kept x) (map (slice_index kept) small) ≡ times (slice_index kept x) stock = ap (times (slice_index kept x)) back in
            let few = times_no_more (slice_index kept) x word (λ y l e. one_number y x (known y l) (known x r.1) e) in
            subst (λ (y : ℕ). times y (map (slice_index kept) word) ≤ times y stock) r.2 (omega (arith, few, within x, times_no_fewer (slice_index kept) x small, same))
            )
      ]

      module _ (start : ℕ) (joins : List Join) (are : All (IsJoin (with_operations t kept)) joins) where
        keeps_renamed : (chosen : ℕ → Bool) → KeepsApart chosen (map (renamed kept) joins) start stock → KeepsApart (λ i. chosen (slice_index kept i)) joins start small
        keeps_renamed chosen keeps join has within =
            let is = All-contains (IsJoin (with_operations t kept)) joins join are has in
            let whole : IsJoinWithin start stock (renamed kept join) = record {
              same_start = within.same_start;
              first = within_renamed join.first.word (known_below join.first.word is.first.known) within.first;
              second = within_renamed join.second.word (known_below join.second.word is.second.known) within.second;
            } in
            sym (ap chosen (get_or-map (slice_index kept) join.first.word 0 0 0 (omega (arith, is.first.has_place))))
            ∙ (keeps (renamed kept join) (contains_map (renamed kept) join joins has) whole
            ∙ ap chosen (get_or-map (slice_index kept) join.second.word 0 0 0 (omega (arith, is.second.has_place))))

        connect_renamed : Connect joins start small → Connect (map (renamed kept) joins) start stock
        connect_renamed connect chosen keeps f g in_f in_g =
            let here = connect (λ i. chosen (slice_index kept i)) (keeps_renamed chosen keeps) (place f kept) (place g kept)
            (omega (arith, in_f, times_no_fewer (λ o. place o kept) f stock)) (omega (arith, in_g, times_no_fewer (λ o. place o kept) g stock)) in
            sym (ap chosen (stands f in_f).1) ∙ (here ∙ ap chosen (stands g in_g).1)

    pub all_renamed : (n : ℕ) (joins : List Join) → All (IsJoin (with_operations t kept)) joins → ConnectAll (with_operations t kept) n joins → ConnectAll t n (map (renamed kept) joins)
    all_renamed n joins are connect start known stock in_table long must = connect_renamed stock in_table must start joins are
        (connect start known (small stock in_table must) (small_known stock in_table must) (length-map stock (λ o. place o kept) ∙ long) (small_must stock in_table must))
