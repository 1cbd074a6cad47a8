-- What words of exactly so many operations lead to, by their first operation.
use Rattle.std.proofs.Common.{◌≡◌, ℕ, ◌+◌, ◌-◌, ◌<◌, ◌≤◌, ◌⊎◌, inl, inr, ◌↔◌, List, [], ◌∷◌, ◌++◌, length, refl, sym, arith}
use Rattle.cn_table.specs.TypeTable.{TypeTable, transition}
use Rattle.cn_table.specs.Run.{state_after}
use Rattle.cn_stocks.specs.Words.{HaveSame, IsKnown, IsWithin, times}
use Rattle.cn_stocks.proofs.Steps.{Gathered}
use Rattle.cn_stocks.proofs.Times.{same_has, same_rest, times_at, times_cons, times_none, within_same}
use Rattle.cn_collisions.specs.Exact.{EndsAfter, ShowsAfter, ShowsNow}

-- ---- words

within_first : (x : ℕ) (stock rest word : List ℕ) → HaveSame stock (x ∷ rest) → IsWithin rest word → IsWithin stock (x ∷ word)
within_first x stock rest word s w o = omega (arith, s o, w o, times_cons o x rest, times_cons o x word)

within_rest : (x : ℕ) (stock rest word : List ℕ) → HaveSame stock (x ∷ rest) → IsWithin stock (x ∷ word) → IsWithin rest word
within_rest x stock rest word s w o = omega (arith, s o, w o, times_cons o x rest, times_cons o x word)

pub ends_same : (t : TypeTable) (start k q : ℕ) (a b : List ℕ) → HaveSame a b → EndsAfter t start a k q → EndsAfter t start b k q
ends_same t start k q a b same e = (e.0, within_same a b e.0 same e.1, e.2, e.3)

pub shows_same : (t : TypeTable) (start o k r q : ℕ) (a b : List ℕ) → HaveSame a b → ShowsAfter t start a o k r q → ShowsAfter t start b o k r q
shows_same t start o k r q a b same s = record {
  before = s.before;
  after = s.after;
  within = within_same a b (s.before ++ s.after) same s.within;
  long = s.long;
  answer = s.answer;
  ends = s.ends;
}

-- a stock with an operation is not empty
pub has_some : (x : ℕ) (stock rest : List ℕ) → HaveSame stock (x ∷ rest) → 1 ≤ length stock
has_some x [] rest same = absurd (omega (arith, same_has x [] rest same, times_none x))
has_some x (y ∷ ys) rest same = omega arith

module _ (t : TypeTable) (start : ℕ) (stock : List ℕ) where
  -- words within the stock that begin with x
  abbrev pub EndsPart : ℕ → ℕ → ℕ → Type 0
  EndsPart k q x = (rest : List ℕ) × HaveSame stock (x ∷ rest) × EndsAfter t (transition t x start).1 rest (k - 1) q

  abbrev pub ShowsPart : ℕ → ℕ → ℕ → ℕ → ℕ → Type 0
  ShowsPart o k r q x = (rest : List ℕ) × HaveSame stock (x ∷ rest) × ShowsAfter t (transition t x start).1 rest o (k - 1) r q

  pub ends_part_is : (x k q : ℕ) (rest : List ℕ) → HaveSame stock (x ∷ rest) → (here : Type 0) → here ↔ EndsAfter t (transition t x start).1 rest (k - 1) q → here ↔ EndsPart k q x
  ends_part_is x k q rest same here s = (
    λ h. (rest, same, s.0 h),
    λ p. s.1 (ends_same t (transition t x start).1 (k - 1) q p.0 rest (same_rest x x stock p.0 rest refl p.1 same) p.2),
  )

  pub ends_part_none : (x k q : ℕ) → times x stock ≡ 0 → ¬ EndsPart k q x
  ends_part_none x k q z h = absurd (omega (arith, z, same_has x stock h.0 h.1))

  pub shows_part_is : (x o k r q : ℕ) (rest : List ℕ) → HaveSame stock (x ∷ rest) → (here : Type 0) → here ↔ ShowsAfter t (transition t x start).1 rest o (k - 1) r q → here ↔ ShowsPart o k r q x
  shows_part_is x o k r q rest same here s = (
    λ h. (rest, same, s.0 h),
    λ p. s.1 (shows_same t (transition t x start).1 o (k - 1) r q p.0 rest (same_rest x x stock p.0 rest refl p.1 same) p.2),
  )

  pub shows_part_none : (x o k r q : ℕ) → times x stock ≡ 0 → ¬ ShowsPart o k r q x
  shows_part_none x o k r q z h = absurd (omega (arith, z, same_has x stock h.0 h.1))

  -- the word of no operation
  pub ends_none : (q : ℕ) (here : Type 0) → here ↔ (q ≡ start) → here ↔ EndsAfter t start stock 0 q
  ends_none q here s = (
    λ h. ([], λ o. omega (arith, times_none o), refl, sym (s.0 h)),
    λ e. s.1 (empty e.0 e.2 e.3),
  )
    where
      empty : (word : List ℕ) → length word ≡ 0 → state_after t start word ≡ q → q ≡ start
      empty [] l e = sym e
      empty (x ∷ word) l e = absurd (omega (arith, l))

  shows_now : (o k r q : ℕ) → ShowsNow t start stock o k r q → ShowsAfter t start stock o k r q
  shows_now o k r q n = record { before = []; after = n.1.0; within = n.1.1; long = omega (arith, n.1.2); answer = n.0; ends = n.1.3 }

  pub shows_none : (o r q : ℕ) (here : Type 0) → here ↔ ShowsNow t start stock o 0 r q → here ↔ ShowsAfter t start stock o 0 r q
  shows_none o r q here s = (
    λ h. shows_now o 0 r q (s.0 h),
    λ e. s.1 (first e.before e.after e.within e.long e.answer e.ends),
  )
    where
      first : (before after : List ℕ) → IsWithin stock (before ++ after) → length before + length after ≡ 0 → (transition t o (state_after t start before)).0 ≡ r
          → state_after t start (before ++ o ∷ after) ≡ q → ShowsNow t start stock o 0 r q
      first [] after w l a e = (a, (after, w, omega (arith, l), e))
      first (x ∷ before) after w l a e = absurd (omega (arith, l))

  module _ (removal : (x : ℕ) → 1 ≤ times x stock → (rest : List ℕ) × HaveSame stock (x ∷ rest)) (n : ℕ) (known : IsKnown n stock) (k : ℕ) (some : 1 ≤ k) where
    -- what is left of a stock that has a word with the operation first
    left_of : (x : ℕ) (word : List ℕ) → IsWithin stock (x ∷ word) → (rest : List ℕ) × HaveSame stock (x ∷ rest) × IsWithin rest word
    left_of x word w = let rest = removal x (omega (arith, w x, times_at x word)) in (rest.0, rest.1, within_rest x stock rest.0 word rest.1 w)

    pub ends_all : (q : ℕ) (here : Type 0) → Gathered ⊥ (EndsPart k q) n here → here ↔ EndsAfter t start stock k q
    ends_all q here g = (
      λ h. elim (g.0 h) [
        | inl b ↦ absurd b
        | inr r ↦ (let e = r.2.2 in (r.0 ∷ e.0, within_first r.0 stock r.2.0 e.0 r.2.1 e.1, omega (arith, e.2, some), e.3))
      ],
      λ e. g.1 (back e.0 e.1 e.2 e.3),
    )
      where
        back : (word : List ℕ) → IsWithin stock word → length word ≡ k → state_after t start word ≡ q → ⊥ ⊎ ((x : ℕ) × (x < n) × EndsPart k q x)
        back [] w l e = absurd (omega (arith, l, some))
        back (x ∷ word) w l e = let left = left_of x word w in inr (x, known x (omega (arith, w x, times_at x word)), (left.0, left.1, (word, left.2, omega (arith, l), e)))

    pub shows_all : (o r q : ℕ) (here : Type 0) → Gathered (ShowsNow t start stock o k r q) (ShowsPart o k r q) n here → here ↔ ShowsAfter t start stock o k r q
    shows_all o r q here g = (
      λ h. elim (g.0 h) [
        | inl b ↦ shows_now o k r q b
        | inr p ↦ (
            let s = p.2.2 in record {
              before = p.0 ∷ s.before;
              after = s.after;
              within = within_first p.0 stock p.2.0 (s.before ++ s.after) p.2.1 s.within;
              long = omega (arith, s.long, some);
              answer = s.answer;
              ends = s.ends;
            }
            )
      ],
      λ s. g.1 (back s.before s.after s.within s.long s.answer s.ends),
    )
      where
        back : (before after : List ℕ) → IsWithin stock (before ++ after) → length before + length after ≡ k → (transition t o (state_after t start before)).0 ≡ r
            → state_after t start (before ++ o ∷ after) ≡ q → ShowsNow t start stock o k r q ⊎ ((x : ℕ) × (x < n) × ShowsPart o k r q x)
        back [] after w l a e = inl (a, (after, w, omega (arith, l), e))
        back (x ∷ before) after w l a e =
            let left = left_of x (before ++ after) w in
            inr (
              x,
              known x (omega (arith, w x, times_at x (before ++ after))),
              (left.0, left.1, record { before = before; after = after; within = left.2; long = omega (arith, l); answer = a; ends = e }),
            )
