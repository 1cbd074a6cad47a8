-- What words lead to, by their first operation.
use Rattle.std.proofs.Common.{◌≡◌, ℕ, ◌+◌, ◌<◌, ◌≤◌, ◌⊎◌, inl, inr, ◌↔◌, List, [], ◌∷◌, ◌++◌, refl, sym, subst, arith}
use Rattle.cn_table.specs.TypeTable.{TypeTable, transition}
use Rattle.cn_table.specs.Run.{state_after}
use Rattle.cn_outcomes.proofs.Packing.{below_or_last}
use Rattle.cn_stocks.specs.Reach.{EndsWithin, ShowsAtOnce, ShowsWithin}
use Rattle.cn_stocks.specs.Words.{BeginsWith, EndsIn, HaveSame, IsKnown, IsWithin, Shows, times}
use Rattle.cn_stocks.proofs.Times.{one_at, one_of, same_has, same_rest, times_at, times_between, times_cons, times_none, within_same}

-- ---- what is gathered, operation by operation

abbrev pub Gathered : Type 0 → (ℕ → Type 0) → ℕ → Type 0 → Type 0
Gathered base part k here = here ↔ (base ⊎ ((x : ℕ) × (x < k) × part x))

module _ (base : Type 0) (part : ℕ → Type 0) where
  pub gathered_first : (here : Type 0) → here ↔ base → Gathered base part 0 here
  gathered_first here e = (λ h. inl (e.0 h), λ h. elim h [ inl b ↦ e.1 b | inr r ↦ absurd (omega (arith, r.1)) ])

  pub gathered_more : (k : ℕ) (here new more : Type 0) → Gathered base part k here → more ↔ (here ⊎ new) → new ↔ part k → Gathered base part (k + 1) more
  gathered_more k here new more g m n = (
    λ h. elim (m.0 h) [ inl a ↦ elim (g.0 a) [ inl b ↦ inl b | inr r ↦ inr (r.0, omega (arith, r.1), r.2) ] | inr b ↦ inr (k, omega arith, n.0 b) ],
    λ h. m.1 (elim h [
      | inl b ↦ inl (g.1 (inl b))
      | inr r ↦ elim (below_or_last r.0 k r.1) [ inl l ↦ inl (g.1 (inr (r.0, l, r.2))) | inr e ↦ inr (n.1 (subst part e r.2)) ]
    ]),
  )

  pub gathered_none : (k : ℕ) (here : Type 0) → Gathered base part k here → ¬ part k → Gathered base part (k + 1) here
  gathered_none k here g n = (
    λ h. elim (g.0 h) [ inl b ↦ inl b | inr r ↦ inr (r.0, omega (arith, r.1), r.2) ],
    λ h. elim h [
      | inl b ↦ g.1 (inl b)
      | inr r ↦ elim (below_or_last r.0 k r.1) [ inl l ↦ g.1 (inr (r.0, l, r.2)) | inr e ↦ absurd (n (subst part e r.2)) ]
    ],
  )

-- ---- words

within_first : (x : ℕ) (stock rest word : List ℕ) → HaveSame stock (x ∷ rest) → IsWithin rest word → IsWithin stock (x ∷ word)
within_first x stock rest word s w o = omega (arith, s o, w o, times_cons o x rest, times_cons o x word)

within_rest : (x : ℕ) (stock rest word : List ℕ) → HaveSame stock (x ∷ rest) → IsWithin stock (x ∷ word) → IsWithin rest word
within_rest x stock rest word s w o = omega (arith, s o, w o, times_cons o x rest, times_cons o x word)

begun : (f : ℕ) (word : List ℕ) → BeginsWith f word → 1 ≤ times f word
begun f [] b = absurd b
begun f (x ∷ xs) b = omega (arith, times_cons f x xs, one_of f x b)

-- both operations are in the stock
pub shows_asked : (t : TypeTable) (start : ℕ) (stock : List ℕ) (f o r q : ℕ) → Shows t start stock f o r q → 1 ≤ times o stock
shows_asked t start stock f o r q s = omega (arith, s.within o, times_between o o s.before s.after, one_at o)

pub shows_first : (t : TypeTable) (start : ℕ) (stock : List ℕ) (f o r q : ℕ) → Shows t start stock f o r q → 1 ≤ times f stock
shows_first t start stock f o r q s = omega (arith, s.within f, begun f (s.before ++ o ∷ s.after) s.begins)

pub within_asked : (t : TypeTable) (start : ℕ) (stock : List ℕ) (o r q : ℕ) → ShowsWithin t start stock o r q → 1 ≤ times o stock
within_asked t start stock o r q s = omega (arith, s.within o, times_between o o s.before s.after, one_at o)

pub shows_same : (t : TypeTable) (start : ℕ) (stock other : List ℕ) (f o r q : ℕ) → HaveSame other stock → Shows t start other f o r q → Shows t start stock f o r q
shows_same t start stock other f o r q same s = record {
  before = s.before;
  after = s.after;
  within = within_same other stock (s.before ++ o ∷ s.after) same s.within;
  begins = s.begins;
  answer = s.answer;
  ends = s.ends;
}

ends_same : (t : TypeTable) (start q : ℕ) (a b : List ℕ) → HaveSame a b → EndsWithin t start a q → EndsWithin t start b q
ends_same t start q a b same e = (e.0, within_same a b e.0 same e.1, e.2)

within_shown : (t : TypeTable) (start o r q : ℕ) (a b : List ℕ) → HaveSame a b → ShowsWithin t start a o r q → ShowsWithin t start b o r q
within_shown t start o r q a b same s = record {
  before = s.before;
  after = s.after;
  within = within_same a b (s.before ++ o ∷ s.after) same s.within;
  answer = s.answer;
  ends = s.ends;
}

module _ (t : TypeTable) (start : ℕ) (stock : List ℕ) where
  -- words within the stock that begin with x
  abbrev pub EndsPart : ℕ → ℕ → Type 0
  EndsPart q x = (rest : List ℕ) × HaveSame stock (x ∷ rest) × EndsWithin t (transition t x start).1 rest q

  abbrev pub ShowsPart : ℕ → ℕ → ℕ → ℕ → Type 0
  ShowsPart o r q x = (rest : List ℕ) × HaveSame stock (x ∷ rest) × ShowsWithin t (transition t x start).1 rest o r q

  pub ends_part_is : (x : ℕ) (rest : List ℕ) → HaveSame stock (x ∷ rest) → (q : ℕ) (here : Type 0) → here ↔ EndsWithin t (transition t x start).1 rest q → here ↔ EndsPart q x
  ends_part_is x rest same q here s = (
    λ h. (rest, same, s.0 h),
    λ p. s.1 (ends_same t (transition t x start).1 q p.0 rest (same_rest x x stock p.0 rest refl p.1 same) p.2),
  )

  pub ends_part_none : (x q : ℕ) → times x stock ≡ 0 → ¬ EndsPart q x
  ends_part_none x q z h = absurd (omega (arith, z, same_has x stock h.0 h.1))

  -- what words leave that begin with x
  pub left_is : (x : ℕ) (rest : List ℕ) → HaveSame stock (x ∷ rest) → (q : ℕ) (here : Type 0) → here ↔ EndsWithin t (transition t x start).1 rest q → here ↔ EndsIn t start stock x q
  left_is x rest same q here s = (
    λ h. (let e = s.0 h in (e.0, within_first x stock rest e.0 same e.1, e.2)),
    λ e. s.1 (e.0, within_rest x stock rest e.0 same e.1, e.2),
  )

  pub left_first : (x q : ℕ) → EndsIn t start stock x q → 1 ≤ times x stock
  left_first x q e = omega (arith, e.1 x, times_at x e.0)

  pub shows_part_is : (x : ℕ) (rest : List ℕ) → HaveSame stock (x ∷ rest) → (o r q : ℕ) (here : Type 0) → here ↔ ShowsWithin t (transition t x start).1 rest o r q → here ↔ ShowsPart o r q x
  shows_part_is x rest same o r q here s = (
    λ h. (rest, same, s.0 h),
    λ p. s.1 (within_shown t (transition t x start).1 o r q p.0 rest (same_rest x x stock p.0 rest refl p.1 same) p.2),
  )

  pub shows_part_none : (x o r q : ℕ) → times x stock ≡ 0 → ¬ ShowsPart o r q x
  shows_part_none x o r q z h = absurd (omega (arith, z, same_has x stock h.0 h.1))

  -- what a word shows o at its first place
  pub at_once_is : (o : ℕ) (rest : List ℕ) → HaveSame stock (o ∷ rest) → (r q : ℕ) (here : Type 0)
      → here ↔ (((transition t o start).0 ≡ r) × EndsWithin t (transition t o start).1 rest q) → here ↔ ShowsAtOnce t start stock o r q
  at_once_is o rest same r q here s = (
    λ h. (let p = s.0 h in (rest, same, p.0, p.1)),
    λ p. s.1 (p.2, ends_same t (transition t o start).1 q p.0 rest (same_rest o o stock p.0 rest refl p.1 same) p.3),
  )

  pub at_once_none : (o r q : ℕ) → times o stock ≡ 0 → ¬ ShowsAtOnce t start stock o r q
  at_once_none o r q z h = absurd (omega (arith, z, same_has o stock h.0 h.1))

  -- by the first operation
  pub shows_from : (f o r q : ℕ) → ((f ≡ o) × ShowsAtOnce t start stock o r q) ⊎ ShowsPart o r q f → Shows t start stock f o r q
  shows_from f o r q (inl h) = record {
    before = [];
    after = h.1.3.0;
    within = within_first o stock h.1.0 h.1.3.0 h.1.1 h.1.3.1;
    begins = sym h.0;
    answer = h.1.2;
    ends = h.1.3.2;
  }
  shows_from f o r q (inr h) =
      let s = h.2 in record {
        before = f ∷ s.before;
        after = s.after;
        within = within_first f stock h.0 (s.before ++ o ∷ s.after) h.1 s.within;
        begins = refl;
        answer = s.answer;
        ends = s.ends;
      }

  pub shown_by_none : (f o r q : ℕ) (base : Type 0) → times f stock ≡ 0 → base ↔ ((f ≡ o) × ShowsAtOnce t start stock o r q) → base ↔ Shows t start stock f o r q
  shown_by_none f o r q base z b = (
    λ x. shows_from f o r q (inl (b.0 x)),
    λ s. absurd (omega (arith, z, shows_first t start stock f o r q s)),
  )

  module _ (removal : (x : ℕ) → 1 ≤ times x stock → (rest : List ℕ) × HaveSame stock (x ∷ rest)) where
    -- what is left of a stock that has a word with the operation first
    left_of : (x : ℕ) (word : List ℕ) → IsWithin stock (x ∷ word) → (rest : List ℕ) × HaveSame stock (x ∷ rest) × IsWithin rest word
    left_of x word w = let rest = removal x (omega (arith, w x, times_at x word)) in (rest.0, rest.1, within_rest x stock rest.0 word rest.1 w)

    by_first : (o r q : ℕ) (before after : List ℕ) → IsWithin stock (before ++ o ∷ after) → (transition t o (state_after t start before)).0 ≡ r → state_after t start (before ++ o ∷ after) ≡ q
        → ((before ≡ []) × ShowsAtOnce t start stock o r q) ⊎ ((x : ℕ) × (1 ≤ times x stock) × ((word : List ℕ) × (before ≡ x ∷ word)) × ShowsPart o r q x)
    by_first o r q [] after w a e = let left = left_of o after w in inl (refl, (left.0, left.1, a, (after, left.2, e)))
    by_first o r q (x ∷ before) after w a e =
        let left = left_of x (before ++ o ∷ after) w in
        inr (x, omega (arith, w x, times_at x (before ++ o ∷ after)), (before, refl), (left.0, left.1, record { before = before; after = after; within = left.2; answer = a; ends = e }))

    pub shows_to : (f o r q : ℕ) → Shows t start stock f o r q → ((f ≡ o) × ShowsAtOnce t start stock o r q) ⊎ ShowsPart o r q f
    shows_to f o r q s = elim (by_first o r q s.before s.after s.within s.answer s.ends) [
      | inl h ↦ inl (sym (subst (λ (b : List ℕ). BeginsWith f (b ++ o ∷ s.after)) h.0 s.begins), h.1)
      | inr h ↦ inr (subst (ShowsPart o r q) (subst (λ (b : List ℕ). BeginsWith f (b ++ o ∷ s.after)) h.2.1 s.begins) h.3)
    ]

    -- what is found at once and behind the first operation
    pub shown_by_is : (f o r q : ℕ) (base part here : Type 0) → base ↔ ((f ≡ o) × ShowsAtOnce t start stock o r q) → part ↔ ShowsPart o r q f → here ↔ (base ⊎ part)
        → here ↔ Shows t start stock f o r q
    shown_by_is f o r q base part here b p h = (
      λ x. shows_from f o r q (elim (h.0 x) [ inl a ↦ inl (b.0 a) | inr a ↦ inr (p.0 a) ]),
      λ s. h.1 (elim (shows_to f o r q s) [ inl a ↦ inl (b.1 a) | inr a ↦ inr (p.1 a) ]),
    )

    module _ (k : ℕ) (known : IsKnown k stock) where
      pub ends_all : (q : ℕ) (here : Type 0) → Gathered (q ≡ start) (EndsPart q) k here → here ↔ EndsWithin t start stock q
      ends_all q here g = (
        λ h. elim (g.0 h) [
          | inl e ↦ ([], λ o. omega (arith, times_none o), sym e)
          | inr r ↦ (let e = r.2.2 in (r.0 ∷ e.0, within_first r.0 stock r.2.0 e.0 r.2.1 e.1, e.2))
        ],
        λ e. g.1 (back e.0 e.1 e.2),
      )
        where
          back : (word : List ℕ) → IsWithin stock word → state_after t start word ≡ q → (q ≡ start) ⊎ ((x : ℕ) × (x < k) × EndsPart q x)
          back [] w e = inl (sym e)
          back (x ∷ word) w e = let left = left_of x word w in inr (x, known x (omega (arith, w x, times_at x word)), (left.0, left.1, (word, left.2, e)))

      pub shown_all : (o r q : ℕ) (here : Type 0) → Gathered (ShowsAtOnce t start stock o r q) (ShowsPart o r q) k here → here ↔ ShowsWithin t start stock o r q
      shown_all o r q here g = (
        λ h. elim (g.0 h) [
          | inl b ↦ forget (shows_from o o r q (inl (refl, b)))
          | inr p ↦ (let s = shows_from p.0 o r q (inr p.2) in record { before = s.before; after = s.after; within = s.within; answer = s.answer; ends = s.ends })
        ],
        λ s. g.1 (elim (by_first o r q s.before s.after s.within s.answer s.ends) [ inl h ↦ inl h.1 | inr h ↦ inr (h.0, known h.0 h.1, h.3) ]),
      )
        where
          forget : Shows t start stock o o r q → ShowsWithin t start stock o r q
          forget s = record { before = s.before; after = s.after; within = s.within; answer = s.answer; ends = s.ends }
