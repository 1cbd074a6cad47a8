-- The words of one operation often and another one at most once, and what they show.
use Rattle.std.proofs.Common.{◌≡◌, ◌≢◌, ℕ, zero, suc, ◌+◌, ◌≤◌, ◌⊎◌, inl, inr, List, [], ◌∷◌, ◌++◌, refl, sym, ap, ◌∙◌, subst, arith}
use Rattle.std.specs.Prelude.{replicate}
use Rattle.cn_table.specs.TypeTable.{TypeTable, transition}
use Rattle.cn_table.specs.Run.{state_after}
use Rattle.cn_outcomes.proofs.LastProcess.{state_last}
use Rattle.cn_stocks.specs.Splits.{AreJoined}
use Rattle.cn_stocks.specs.Words.{BeginsWith, EndsIn, IsWithin, Shows, times}
use Rattle.cn_stocks.proofs.Times.{one, one_at, one_else, one_of, same_or, times_at, times_between, times_cons, times_last, times_none}
use Rattle.cn_stocks.specs.Lasting.{EndsAt, HaveCommonState, ManyFirst, SingleFirst, single_and}
use Rattle.cn_stocks.proofs.LastingLemmas.Counts.{times_other, times_same, times_stock, within_more, zero_or_one}

-- where a word shows something it ends
shows_ends : (t : TypeTable) (start : ℕ) (stock : List ℕ) (f o r q : ℕ) → Shows t start stock f o r q → EndsIn t start stock f q
shows_ends t start stock f o r q s = by_word (s.before ++ o ∷ s.after) s.within s.begins s.ends
  where
    by_word : (word : List ℕ) → IsWithin stock word → BeginsWith f word → state_after t start word ≡ q → EndsIn t start stock f q
    by_word [] w b e = absurd b
    by_word (x ∷ xs) w b e =
        (xs, subst (λ (y : ℕ). IsWithin stock (y ∷ xs)) b w, ap (λ (y : ℕ). state_after t start (y ∷ xs)) (sym b) ∙ e)

pub state_join : (t : TypeTable) (start : ℕ) (xs ys : List ℕ) → state_after t start (xs ++ ys) ≡ state_after t (state_after t start xs) ys
state_join t start [] ys = refl
state_join t start (x ∷ xs) ys = state_join t (transition t x start).1 xs ys

-- a word of no other operation
only : (many : ℕ) (word : List ℕ) → ((x : ℕ) → x ≢ many → times x word ≡ 0) → (k : ℕ) × (word ≡ replicate k many)
only many [] h = (0, refl)
only many (x ∷ xs) h = elim (same_or x many) [
  | inl e ↦ (
      let r = only many xs (λ y n. omega (arith, h y n, times_cons y x xs)) in
      (suc r.0, ap (λ (l : List ℕ). x ∷ l) r.1 ∙ ap (λ (y : ℕ). y ∷ replicate r.0 many) e)
      )
  | inr n ↦ absurd (omega (arith, h x n, times_at x xs))
]

-- a word with the one operation once and else the other one alone
split : (many single : ℕ) (word : List ℕ) → ((x : ℕ) → x ≢ many → x ≢ single → times x word ≡ 0) → times single word ≡ 1 → (i : ℕ) × (k : ℕ) × (word ≡ replicate i many ++ single ∷ replicate k many)
split many single [] h a = absurd (omega (arith, a, times_none single))
split many single (x ∷ xs) h a = elim (same_or x single) [
  | inl e ↦ (
      let none : times single xs ≡ 0 = omega (arith, a, times_cons single x xs, one_of single x e) in
      let r = only many xs (λ y n. elim (same_or y single) [
        | inl f ↦ ap (λ (z : ℕ). times z xs) f ∙ none
        | inr m ↦ omega (arith, h y n m, times_cons y x xs)
      ]) in
      (0, r.0, ap (λ (l : List ℕ). x ∷ l) r.1 ∙ ap (λ (y : ℕ). y ∷ replicate r.0 many) e)
      )
  | inr n ↦ elim (same_or x many) [
    | inl e ↦ (
        let r = split many single xs (λ y m l. omega (arith, h y m l, times_cons y x xs)) (omega (arith, a, times_cons single x xs, one_else single x n)) in
        (suc r.0, r.1, ap (λ (l : List ℕ). x ∷ l) r.2 ∙ ap (λ (y : ℕ). y ∷ (replicate r.0 many ++ single ∷ replicate r.1 many)) e)
        )
    | inr m ↦ absurd (omega (arith, h x m n, times_at x xs))
  ]
]

module _ (many single : ℕ) (d : many ≢ single) where
  word_form : (k : ℕ) (word : List ℕ) → IsWithin (single_and single many k) word
      → ((i : ℕ) × (word ≡ replicate i many)) ⊎ ((i : ℕ) × (j : ℕ) × (word ≡ replicate i many ++ single ∷ replicate j many))
  word_form k word w = elim (zero_or_one (times single word) at_most) [
    | inl e ↦ inl (only many word (λ x n. elim (same_or x single) [ inl f ↦ ap (λ (y : ℕ). times y word) f ∙ e | inr m ↦ no_other x n m ]))
    | inr e ↦ inr (split many single word no_other e)
  ]
    where
      at_most : times single word ≤ 1
      at_most = omega (arith, w single, times_stock single single many k, one_at single, times_other single many k d)

      no_other : (x : ℕ) → x ≢ many → x ≢ single → times x word ≡ 0
      no_other x n m = omega (arith, w x, times_stock x single many k, one_else x single (λ e. m (sym e)), times_other x many k (λ e. n (sym e)))

  same_head : (x y : ℕ) (xs ys : List ℕ) → x ∷ xs ≡ y ∷ ys → x ≡ y
  same_head x y xs ys e = cc

  -- it begins with the one operation only where that is in front
  begins_often : (rest : List ℕ) (i : ℕ) (back : List ℕ) → many ∷ rest ≡ replicate i many ++ single ∷ back → (k : ℕ) × (i ≡ suc k)
  begins_often rest zero back e = absurd (d (same_head many single rest back e))
  begins_often rest (suc k) back e = (k, refl)

  begins_once : (rest : List ℕ) (i : ℕ) (back : List ℕ) → single ∷ rest ≡ replicate i many ++ single ∷ back → i ≡ 0
  begins_once rest zero back e = refl
  begins_once rest (suc k) back e = absurd (d (sym (same_head single many rest (replicate k many ++ single ∷ back) e)))

  never_once : (rest : List ℕ) (i : ℕ) → single ∷ rest ≡ replicate i many → ⊥
  never_once rest zero e = absurd (cc e)
  never_once rest (suc k) e = d (sym (same_head single many rest (replicate k many) e))

  module _ (t : TypeTable) (start : ℕ) where
    many_ends : (k q : ℕ) → EndsIn t start (single_and single many k) many q → ManyFirst t start many single q
    many_ends k q e = elim (word_form k (many ∷ e.0) e.1) [
      | inl r ↦ inl (r.0, ap (state_after t start) (sym r.1) ∙ e.2)
      | inr r ↦ (
          let b = begins_often e.0 r.0 (replicate r.1 many) r.2 in
          let form : many ∷ e.0 ≡ replicate (suc b.0) many ++ single ∷ replicate r.1 many = r.2 ∙ ap (λ (i : ℕ). replicate i many ++ single ∷ replicate r.1 many) b.1 in
          inr (b.0, r.1, ap (state_after t start) (sym form) ∙ e.2)
          )
    ]

    single_ends : (k q : ℕ) → EndsIn t start (single_and single many k) single q → SingleFirst t start many single q
    single_ends k q e = elim (word_form k (single ∷ e.0) e.1) [
      | inl r ↦ absurd (never_once e.0 r.0 r.1)
      | inr r ↦ (
          let b = begins_once e.0 r.0 (replicate r.1 many) r.2 in
          let form : single ∷ e.0 ≡ single ∷ replicate r.1 many = r.2 ∙ ap (λ (i : ℕ). replicate i many ++ single ∷ replicate r.1 many) b in
          (r.1, ap (state_after t start) (sym form) ∙ e.2)
          )
    ]

    -- where the states are apart, no process sees the same
    pub not_joined : ((q : ℕ) → ManyFirst t start many single q → ¬ SingleFirst t start many single q) → (k : ℕ) → ¬ AreJoined t start (single_and single many k) many single
    not_joined apart k j =
        apart j.2 (many_ends k j.2 (shows_ends t start (single_and single many k) many j.0 j.1 j.2 j.3))
        (single_ends k j.2 (shows_ends t start (single_and single many k) single j.0 j.1 j.2 j.4))

    within_own : (word : List ℕ) → ((x : ℕ) → x ≢ many → times x word ≤ one x single) → IsWithin (single_and single many (times many word)) word
    within_own word few x = elim (same_or many x) [
      | inl e ↦ (
          let a : times x (replicate (times many word) many) ≡ times x (replicate (times many word) x) = ap (λ (y : ℕ). times x (replicate (times many word) y)) e in
          let b : times many word ≡ times x word = ap (λ (y : ℕ). times y word) e in
          omega (arith, times_stock x single many (times many word), a, b, times_same x (times many word))
          )
      | inr n ↦ omega (arith, few x (λ e. n (sym e)), times_stock x single many (times many word), times_other x many (times many word) n)
    ]

    -- a word that ends in the state and begins with f, and then the other operation, which is asked
    pub asked_last : (f q : ℕ) (before : List ℕ) → BeginsWith f (before ++ many ∷ []) → ((x : ℕ) → x ≢ many → times x before ≤ one x single) → state_after t start before ≡ q
        → (k : ℕ) → times many (before ++ many ∷ []) ≤ k → Shows t start (single_and single many k) f many (transition t many q).0 (transition t many q).1
    asked_last f q before b few e k l = record {
      before = before;
      after = [];
      within = within_more single many (times many (before ++ many ∷ [])) k (before ++ many ∷ []) l
          (within_own (before ++ many ∷ []) (λ x n. omega (arith, few x n, times_last x many before, one_else x many (λ h. n (sym h)))));
      begins = b;
      answer = ap (λ (s : ℕ). (transition t many s).0) e;
      ends = state_last t start before many ∙ ap (λ (s : ℕ). (transition t many s).1) e;
    }

    pub begins_same : (i : ℕ) → BeginsWith many (replicate i many ++ many ∷ [])
    begins_same zero = refl
    begins_same (suc i) = refl

    pub few_same : (i x : ℕ) → x ≢ many → times x (replicate i many) ≤ one x single
    few_same i x n = omega (arith, times_other x many i (λ e. n (sym e)))

    pub few_mixed : (i k x : ℕ) → x ≢ many → times x (many ∷ replicate i many ++ single ∷ replicate k many) ≤ one x single
    few_mixed i k x n =
        omega (
          arith,
          times_cons x many (replicate i many ++ single ∷ replicate k many),
          one_else x many (λ e. n (sym e)),
          times_between x single (replicate i many) (replicate k many),
          times_other x many i (λ e. n (sym e)),
          times_other x many k (λ e. n (sym e)),
        )

    pub few_once : (k x : ℕ) → x ≢ many → times x (single ∷ replicate k many) ≤ one x single
    few_once k x n = omega (arith, times_cons x single (replicate k many), times_other x many k (λ e. n (sym e)))

    often_shows : (q : ℕ) → ManyFirst t start many single q → (k : ℕ) × ((l : ℕ) → k ≤ l → Shows t start (single_and single many l) many many (transition t many q).0 (transition t many q).1)
    often_shows q (inl h) = (times many (replicate h.0 many ++ many ∷ []), λ l u. asked_last many q (replicate h.0 many) (begins_same h.0) (few_same h.0) h.1 l u)
    often_shows q (inr h) = (
      times many ((many ∷ replicate h.0 many ++ single ∷ replicate h.1 many) ++ many ∷ []),
      λ l u. asked_last many q (many ∷ replicate h.0 many ++ single ∷ replicate h.1 many) refl (few_mixed h.0 h.1) h.2 l u,
    )

    once_shows : (q : ℕ) → SingleFirst t start many single q → (k : ℕ) × ((l : ℕ) → k ≤ l → Shows t start (single_and single many l) single many (transition t many q).0 (transition t many q).1)
    once_shows q h = (times many ((single ∷ replicate h.0 many) ++ many ∷ []), λ l u. asked_last single q (single ∷ replicate h.0 many) refl (few_once h.0) h.1 l u)

    -- where the states meet, the next operation sees the same
    pub joined : HaveCommonState t start many single → (k : ℕ) × EndsAt t start many single k
    joined m =
        let a = often_shows m.0 m.1 in
        let b = once_shows m.0 m.2 in
        (a.0 + b.0, (many, (transition t many m.0).0, (transition t many m.0).1, a.1 (a.0 + b.0) (omega arith), b.1 (a.0 + b.0) (omega arith)))
