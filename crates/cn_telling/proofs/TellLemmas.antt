-- What tells, with one operation less, and beside what splits.
use Rattle.std.proofs.Common.{◌≡◌, ◌≢◌, ℕ, zero, suc, ◌+◌, ◌-◌, ◌≤◌, List, [], ◌∷◌, ◌++◌, length, refl, sym, ap, ◌∙◌, subst, arith, true, false, true≢false}
use Rattle.cn_table.specs.TypeTable.{TypeTable, transition}
use Rattle.cn_table.specs.Run.{state_after}
use Rattle.cn_outcomes.proofs.LastProcess.{state_last}
use Rattle.cn_stocks.specs.Meetings.{AreLeft, FallApart}
use Rattle.cn_stocks.specs.Splits.{SomeSplits, StockSplits}
use Rattle.cn_stocks.specs.Words.{BeginsWith, EndsIn, HaveSame, IsWithin, Shows, times}
use Rattle.cn_stocks.proofs.Fewer.{beside}
use Rattle.cn_stocks.proofs.RecordLemmas.{in_stock, some_left}
use Rattle.cn_stocks.proofs.Times.{same_sym, times_cons, times_last, within_same}
use Rattle.cn_telling.specs.Telling.{SomeTells, Tells, TellsFrom}

-- the same operations tell alike
ends_in_same : (t : TypeTable) (start f q : ℕ) (a b : List ℕ) → HaveSame a b → EndsIn t start a f q → EndsIn t start b f q
ends_in_same t start f q a b same e = (e.0, within_same a b (f ∷ e.0) same e.1, e.2)

pub tells_same : (t : TypeTable) (start : ℕ) (a b : List ℕ) → HaveSame a b → Tells t start a → Tells t start b
tells_same t start a b same s =
    let back = same_sym a b same in record {
      chosen = s.chosen;
      inside = (s.inside.0, omega (arith, s.inside.1, same s.inside.0), s.inside.2);
      outside = (s.outside.0, omega (arith, s.outside.1, same s.outside.0), s.outside.2);
      apart = λ f g q yes no x y. s.apart f g q yes no (ends_in_same t start f q b a back x) (ends_in_same t start g q b a back y);
    }

-- ---- with one operation less

module _ (t : TypeTable) (start : ℕ) (stock : List ℕ) (x : ℕ) (rest : List ℕ) (same : HaveSame stock (x ∷ rest)) where
  more_ends : (f q : ℕ) → EndsIn t start rest f q → EndsIn t start stock f q
  more_ends f q e = (e.0, (λ o. omega (arith, e.1 o, same o, times_cons o x rest)), e.2)

  -- a word of the rest, with the operation left out behind it
  shows_last : (f q : ℕ) → EndsIn t start rest f q → Shows t start stock f x (transition t x q).0 (transition t x q).1
  shows_last f q e = record {
    before = f ∷ e.0;
    after = [];
    within = λ o. omega (arith, e.1 o, same o, times_cons o x rest, times_last o x (f ∷ e.0));
    begins = refl;
    answer = ap (λ (s : ℕ). (transition t x s).0) e.2;
    ends = state_last t start (f ∷ e.0) x ∙ ap (λ (s : ℕ). (transition t x s).1) e.2;
  }

  -- where both parts have an operation besides the one that is left out
  pub tells_less : (s : Tells t start stock) → (f : ℕ) × (1 ≤ times f rest) × (s.chosen f ≡ true) → (g : ℕ) × (1 ≤ times g rest) × (s.chosen g ≡ false) → Tells t start rest
  tells_less s inside outside = record {
    chosen = s.chosen;
    inside = inside;
    outside = outside;
    apart = λ f g q yes no a b. s.apart f g q yes no (more_ends f q a) (more_ends g q b);
  }

  pub split_tells : (s : StockSplits t start stock) → (f : ℕ) × (1 ≤ times f rest) × (s.chosen f ≡ true) → (g : ℕ) × (1 ≤ times g rest) × (s.chosen g ≡ false) → Tells t start rest
  split_tells s inside outside = record {
    chosen = s.chosen;
    inside = inside;
    outside = outside;
    apart = λ f g q yes no a b. s.apart f g yes no (x, (transition t x q).0, (transition t x q).1, shows_last f q a, shows_last g q b);
  }

-- a stock of three operations or more that tells does so with some operation less
pub less_tells : (t : TypeTable) (start : ℕ) (stock : List ℕ) → 3 ≤ length stock → Tells t start stock
    → (x : ℕ) × (rest : List ℕ) × HaveSame stock (x ∷ rest) × (length stock ≡ suc (length rest)) × Tells t start rest
less_tells t start stock l s =
    let apart : s.inside.0 ≢ s.outside.0 = λ e. true≢false (sym s.inside.2 ∙ (ap s.chosen e ∙ s.outside.2)) in
    let r = beside s.inside.0 s.outside.0 stock l s.inside.1 s.outside.1 apart in
    (r.1.0, r.0, r.1.1, r.2, tells_less t start stock r.1.0 r.0 r.1.1 s (s.inside.0, r.3, s.inside.2) (s.outside.0, r.4, s.outside.2))

-- one that splits tells with some operation less
pub less_of_split : (t : TypeTable) (start : ℕ) (stock : List ℕ) → 3 ≤ length stock → StockSplits t start stock
    → (x : ℕ) × (rest : List ℕ) × HaveSame stock (x ∷ rest) × (length stock ≡ suc (length rest)) × Tells t start rest
less_of_split t start stock l s =
    let apart : s.inside.0 ≢ s.outside.0 = λ e. true≢false (sym s.inside.2 ∙ (ap s.chosen e ∙ s.outside.2)) in
    let r = beside s.inside.0 s.outside.0 stock l s.inside.1 s.outside.1 apart in
    (r.1.0, r.0, r.1.1, r.2, split_tells t start stock r.1.0 r.0 r.1.1 s (s.inside.0, r.3, s.inside.2) (s.outside.0, r.4, s.outside.2))

-- ---- what tells splits

begun_with : (f : ℕ) (word : List ℕ) → BeginsWith f word → (rest : List ℕ) × (word ≡ f ∷ rest)
begun_with f [] b = absurd b
begun_with f (x ∷ xs) b = (xs, ap (λ (y : ℕ). y ∷ xs) b)

-- what a word shows ends in a state that is left
pub shows_left : (t : TypeTable) (start : ℕ) (stock : List ℕ) (f o r q : ℕ) → Shows t start stock f o r q → EndsIn t start stock f q
shows_left t start stock f o r q s =
    let w = begun_with f (s.before ++ o ∷ s.after) s.begins in
    (w.0, subst (λ (word : List ℕ). IsWithin stock word) w.1 s.within, subst (λ (word : List ℕ). state_after t start word ≡ q) w.1 s.ends)

pub tells_splits : (t : TypeTable) (start : ℕ) (stock : List ℕ) → Tells t start stock → StockSplits t start stock
tells_splits t start stock s = record {
  chosen = s.chosen;
  inside = s.inside;
  outside = s.outside;
  apart = λ f g yes no j. s.apart f g j.2 yes no (shows_left t start stock f j.0 j.1 j.2 j.3) (shows_left t start stock g j.0 j.1 j.2 j.4);
}

-- ---- the sets of the states that words leave

module _ (t : TypeTable) (start : ℕ) (stock sets : List ℕ) (left : AreLeft t start stock sets) where
  pub apart_tells : FallApart sets → Tells t start stock
  apart_tells a = record {
    chosen = a.chosen;
    inside = (a.inside.0, in_stock t start stock sets left a.inside.0 a.inside.2.0 a.inside.2.1, a.inside.1);
    outside = (a.outside.0, in_stock t start stock sets left a.outside.0 a.outside.2.0 a.outside.2.1, a.outside.1);
    apart = λ f g q yes no x y. a.apart f g q yes no ((left f q).1 x) ((left g q).1 y);
  }

  pub tells_apart : Tells t start stock → FallApart sets
  tells_apart s = record {
    chosen = s.chosen;
    inside = (s.inside.0, s.inside.2, some_left t start stock sets left s.inside.0 s.inside.1);
    outside = (s.outside.0, s.outside.2, some_left t start stock sets left s.outside.0 s.outside.1);
    apart = λ f g q yes no x y. s.apart f g q yes no ((left f q).0 x) ((left g q).0 y);
  }

-- ---- numbers of operations

one_less : (t : TypeTable) (n start : ℕ) → 2 ≤ n → TellsFrom t (n + 1) start → TellsFrom t n start
one_less t n start l h =
    let r = less_tells t start h.0 (omega (arith, l, h.2)) h.3 in
    (r.1, λ o k. h.1 o (omega (arith, k, r.2 o, times_cons o r.0 r.1)), omega (arith, r.3, h.2), r.4)

fewer : (t : TypeTable) (m more start : ℕ) → 2 ≤ m → TellsFrom t (m + more) start → TellsFrom t m start
fewer t m zero start l h = let e : m + 0 ≡ m = omega arith in subst (λ (k : ℕ). TellsFrom t k start) e h
fewer t m (suc more) start l h =
    let e : m + suc more ≡ m + more + 1 = omega arith in
    fewer t m more start l (one_less t (m + more) start (omega (arith, l)) (subst (λ (k : ℕ). TellsFrom t k start) e h))

-- where some stock of n operations tells, some smaller one does
pub fewer_tell : (t : TypeTable) (m n : ℕ) → 2 ≤ m → m ≤ n → SomeTells t n → SomeTells t m
fewer_tell t m n l u h = let e : n ≡ m + (n - m) = omega (arith, u) in (h.0, h.1, fewer t m (n - m) h.0 l (subst (λ (k : ℕ). TellsFrom t k h.0) e h.2))

pub some_tells_splits : (t : TypeTable) (n : ℕ) → SomeTells t n → SomeSplits t n
some_tells_splits t n h = let s = h.2 in (h.0, h.1, (s.0, s.1, s.2, tells_splits t h.0 s.0 s.3))

pub split_without_one_tells : (t : TypeTable) (n : ℕ) → 2 ≤ n → SomeSplits t (n + 1) → SomeTells t n
split_without_one_tells t n l h =
    let s = h.2 in
    let r = less_of_split t h.0 s.0 (omega (arith, l, s.2)) s.3 in
    (h.0, h.1, (r.1, (λ o k. s.1 o (omega (arith, k, r.2 o, times_cons o r.0 r.1))), omega (arith, r.3, s.2), r.4))
