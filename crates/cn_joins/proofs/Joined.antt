-- Whether words within a stock join two operations, and joins that connect a stock.
use Rattle.std.proofs.Common.{◌≡◌, ℕ, ◌<◌, ◌≤◌, ◌⊎◌, inl, inr, List, [], ◌∷◌, length, get_or, refl, sym, ap, ◌∙◌, arith, true, false, true≢false, All, Contains}
use Rattle.std.proofs.lemmas.List.Elements.{All-cons, All-nil, Contains-append_left, Contains-append_right}
use Rattle.cn_table.specs.TypeTable.{TypeTable}
use Rattle.cn_table.specs.Run.{responses_along, state_after}
use Rattle.cn_stocks.specs.Splits.{AreJoined, StockSplits}
use Rattle.cn_stocks.specs.Words.{IsKnown, IsWithin, times}
use Rattle.cn_stocks.proofs.Steps.{shows_first}
use Rattle.cn_stocks.proofs.Times.{same_or}
use Rattle.cn_joins.specs.Joins.{Connect, IsJoin, IsJoinWithin, Join, beginning}
use Rattle.cn_joins.proofs.Finite.{OrNot, WordWith, both, some_below, some_word, within_or_not, within_short}
use Rattle.cn_joins.proofs.Gathering.{Grows, for_each}
use Rattle.cn_joins.proofs.PlacedWords.{asked_is, first_is, place_known, response_is, word_of}
use Rattle.cn_joins.proofs.Soundness.{equal_from}

module _ (t : TypeTable) (start : ℕ) (stock : List ℕ) where
  -- the word is within the stock and begins with f
  abbrev Begun : ℕ → List ℕ → Type 0
  Begun f word = IsWithin stock word × (get_or word 0 0 ≡ f)

  -- the two words show one operation the same at two places
  abbrev Same : List ℕ → ℕ → List ℕ → ℕ → Type 0
  Same word i other j =
      (get_or word i 0 ≡ get_or other j 0) × (get_or (responses_along t start word) i 0 ≡ get_or (responses_along t start other) j 0) × (state_after t start word ≡ state_after t start other)

  abbrev Other : ℕ → List ℕ → ℕ → List ℕ → Type 0
  Other g word i other = Begun g other × ((j : ℕ) × (j < length other) × Same word i other j)

  abbrev First : ℕ → ℕ → ℕ → List ℕ → Type 0
  First k f g word = Begun f word × ((i : ℕ) × (i < length word) × WordWith k (length stock) (Other g word i))

  module _ (k : ℕ) where
    begun_or_not : (f : ℕ) (word : List ℕ) → IsKnown k word → OrNot (Begun f word)
    begun_or_not f word known = both _ _ (within_or_not k stock word known) (same_or (get_or word 0 0) f)

    same_or_not : (word : List ℕ) (i : ℕ) (other : List ℕ) (j : ℕ) → OrNot (Same word i other j)
    same_or_not word i other j = elim (same_or (get_or word i 0) (get_or other j 0)) [
      | inr n ↦ inr (λ h. n h.0)
      | inl a ↦ elim (same_or (get_or (responses_along t start word) i 0) (get_or (responses_along t start other) j 0)) [
        | inr n ↦ inr (λ h. n h.1)
        | inl b ↦ elim (same_or (state_after t start word) (state_after t start other)) [ inr n ↦ inr (λ h. n h.2) | inl c ↦ inl (a, b, c) ]
      ]
    ]

    other_or_not : (g : ℕ) (word : List ℕ) (i : ℕ) → OrNot (WordWith k (length stock) (Other g word i))
    other_or_not g word i =
        some_word k (length stock) (Other g word i) (λ other known. both _ _ (begun_or_not g other known) (some_below (Same word i other) (length other) (λ j l. same_or_not word i other j)))

    found_or_not : (f g : ℕ) → OrNot (WordWith k (length stock) (First k f g))
    found_or_not f g =
        some_word k (length stock) (First k f g) (λ word known. both _ _ (begun_or_not f word known) (some_below (λ i. WordWith k (length stock) (Other g word i)) (length word) (λ i l. other_or_not g word i)))

  -- a join within the stock whose words begin with f and g
  pub record JoinOf (f g : ℕ) : Type 0 where
    pub join : Join
    pub is : IsJoin t join
    pub within : IsJoinWithin start stock join
    pub first_is : beginning join.first ≡ f
    pub second_is : beginning join.second ≡ g

  module _ (start_known : start < length t.states) (known : IsKnown (length t.operations) stock) where
    word_known : (word : List ℕ) → IsWithin stock word → IsKnown (length t.operations) word
    word_known word w o l = known o (omega (arith, l, w o))

    found_join : (f g : ℕ) → WordWith (length t.operations) (length stock) (First (length t.operations) f g) → JoinOf f g
    found_join f g h =
        let i = h.has.1.0 in
        let other = h.has.1.2 in
        let j = other.has.1.0 in
        let same = other.has.1.2 in record {
          join = record { start = start; first = record { word = h.word; place = i }; second = record { word = other.word; place = j } };
          is = record {
            start_known = start_known;
            first = record { known = h.known; has_place = h.has.1.1 };
            second = record { known = other.known; has_place = other.has.1.1 };
            same_operation = same.0;
            same_pair = rw (same.1, same.2) refl;
          };
          within = record { same_start = refl; first = h.has.0.0; second = other.has.0.0 };
          first_is = h.has.0.1;
          second_is = other.has.0.1;
        }

    join_found : (f g : ℕ) → AreJoined t start stock f g → WordWith (length t.operations) (length stock) (First (length t.operations) f g)
    join_found f g h =
        let a = word_of t start stock f h.0 h.1 h.2 h.3 in
        let b = word_of t start stock g h.0 h.1 h.2 h.4 in
        let other : WordWith (length t.operations) (length stock) (Other g a.word a.place) = record {
          word = b.word;
          short = within_short b.word stock h.4.within;
          known = word_known b.word h.4.within;
          has = (
            (h.4.within, first_is t start stock g h.0 h.1 h.2 h.4),
            (
              b.place,
              place_known t start stock g h.0 h.1 h.2 h.4,
              (
                asked_is t start stock f h.0 h.1 h.2 h.3 ∙ sym (asked_is t start stock g h.0 h.1 h.2 h.4),
                response_is t start stock f h.0 h.1 h.2 h.3 ∙ sym (response_is t start stock g h.0 h.1 h.2 h.4),
                h.3.ends ∙ sym h.4.ends,
              ),
            ),
          );
        } in record {
          word = a.word;
          short = within_short a.word stock h.3.within;
          known = word_known a.word h.3.within;
          has = ((h.3.within, first_is t start stock f h.0 h.1 h.2 h.3), (a.place, place_known t start stock f h.0 h.1 h.2 h.3, other));
        }

    pub join_or_not : (f g : ℕ) → JoinOf f g ⊎ (¬ AreJoined t start stock f g)
    join_or_not f g = elim (found_or_not (length t.operations) f g) [ inl h ↦ inl (found_join f g h) | inr n ↦ inr (λ j. n (join_found f g j)) ]

    -- the list has a join of the two operations, if they are joined
    record Listed (f g : ℕ) (joins : List Join) : Type 0 where
      join : JoinOf f g
      has : Contains joins join.join

    abbrev HasJoin : ℕ → ℕ → List Join → Type 0
    HasJoin f g joins = AreJoined t start stock f g → Listed f g joins

    join_grows : (f g : ℕ) → Grows (HasJoin f g)
    join_grows f g = record {
      left = λ xs ys h j. (let l = h j in record { join = l.join; has = Contains-append_left xs ys l.join.join l.has });
      right = λ xs ys h j. (let l = h j in record { join = l.join; has = Contains-append_right xs ys l.join.join l.has });
    }

    of_two : (f g : ℕ) → (xs : List Join) × All (IsJoin t) xs × HasJoin f g xs
    of_two f g = elim (join_or_not f g) [
      | inl join ↦ (join.join ∷ [], All-cons (IsJoin t) join.join [] join.is (All-nil (IsJoin t)), λ j. record { join = join; has = (0, omega arith, refl) })
      | inr none ↦ ([], All-nil (IsJoin t), λ j. absurd (none j))
    ]

    all_joins : (xs : List Join) × All (IsJoin t) xs × ((f : ℕ) → f < length t.operations → (g : ℕ) → g < length t.operations → HasJoin f g xs)
    all_joins = for_each (IsJoin t) (λ f xs. (g : ℕ) → g < length t.operations → HasJoin f g xs)
        (λ f. record { left = λ xs ys h g l. (join_grows f g).left xs ys (h g l); right = λ xs ys h g l. (join_grows f g).right xs ys (h g l) }) (length t.operations)
        (λ f l. for_each (IsJoin t) (HasJoin f) (join_grows f) (length t.operations) (λ g u. of_two f g))

    -- the joins of a stock that does not split connect its operations
    connected : (xs : List Join) → ((f : ℕ) → f < length t.operations → (g : ℕ) → g < length t.operations → HasJoin f g xs) → ¬ StockSplits t start stock → Connect xs start stock
    connected xs all none chosen keeps f g in_f in_g =
        equal_from (chosen f) (chosen g) (λ yes no. none (split f g in_f in_g yes no)) (λ yes no. none (split g f in_g in_f yes no))
      where
        apart : (a b : ℕ) → chosen a ≡ true → chosen b ≡ false → ¬ AreJoined t start stock a b
        apart a b sure unsure j =
            let first = known a (shows_first t start stock a j.0 j.1 j.2 j.3) in
            let second = known b (shows_first t start stock b j.0 j.1 j.2 j.4) in
            let l = all a first b second j in
            true≢false (sym sure ∙ (ap chosen (sym l.join.first_is) ∙ (keeps l.join.join l.has l.join.within ∙ (ap chosen l.join.second_is ∙ unsure))))

        split : (a b : ℕ) → 1 ≤ times a stock → 1 ≤ times b stock → chosen a ≡ true → chosen b ≡ false → StockSplits t start stock
        split a b in_a in_b sure unsure = record { chosen = chosen; inside = (a, in_a, sure); outside = (b, in_b, unsure); apart = λ x y s u. apart x y s u }

    pub connecting : ¬ StockSplits t start stock → (xs : List Join) × All (IsJoin t) xs × Connect xs start stock
    connecting none = (all_joins.0, all_joins.1, connected all_joins.0 all_joins.2 none)
