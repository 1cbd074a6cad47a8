-- What splits or records with one operation less.
use Rattle.std.proofs.Common.{◌≡◌, ◌≢◌, ℕ, zero, suc, ◌+◌, ◌-◌, ◌≤◌, inl, inr, List, [], ◌∷◌, length, refl, sym, ap, ◌∙◌, subst, arith, Bool, true, false, true≢false}
use Rattle.cn_table.specs.TypeTable.{TypeTable}
use Rattle.cn_stocks.specs.declared.question.Question.{Question}
use Rattle.cn_stocks.specs.declared.question.Question.TheVariants.{Recording, Splitting}
use Rattle.cn_stocks.specs.Greatest.{NoneFrom}
use Rattle.cn_stocks.specs.Questions.{Holds, HoldsFrom, SomeHolds}
use Rattle.cn_stocks.specs.Records.{HasTwoOf, Records}
use Rattle.cn_stocks.specs.Splits.{SomeSplits, StockSplits}
use Rattle.cn_stocks.specs.Words.{EndsIn, HaveSame, IsWithin, Shows, times}
use Rattle.cn_stocks.proofs.Steps.{shows_same}
use Rattle.cn_stocks.proofs.Times.{one_else, same_or, same_sym, times_at, times_cons, times_none, within_same}

-- the same operations split alike
pub splits_same : (t : TypeTable) (start : ℕ) (a b : List ℕ) → HaveSame a b → StockSplits t start a → StockSplits t start b
splits_same t start a b same s = record {
  chosen = s.chosen;
  inside = (s.inside.0, omega (arith, s.inside.1, same s.inside.0), s.inside.2);
  outside = (s.outside.0, omega (arith, s.outside.1, same s.outside.0), s.outside.2);
  apart = λ f g yes no j. s.apart f g yes no
      (j.0, j.1, j.2, shows_same t start a b f j.0 j.1 j.2 (same_sym a b same) j.3, shows_same t start a b g j.0 j.1 j.2 (same_sym a b same) j.4);
}

-- ---- with one operation less

-- what is left of a list without one occurrence of x
taken_out : (x : ℕ) (list : List ℕ) → 1 ≤ times x list → (rest : List ℕ) × HaveSame list (x ∷ rest) × (length list ≡ suc (length rest))
taken_out x [] l = absurd (omega (arith, l, times_none x))
taken_out x (y ∷ list) l = elim (same_or y x) [
  | inl e ↦ (list, (λ o. ap (λ (z : ℕ). times o (z ∷ list)) e), refl)
  | inr n ↦ (
      let r = taken_out x list (omega (arith, l, times_cons x y list, one_else x y n)) in
      (y ∷ r.0, (λ o. omega (arith, r.1 o, times_cons o y list, times_cons o x r.0, times_cons o x (y ∷ r.0), times_cons o y r.0)), omega (arith, r.2))
      )
]

-- some operation of a list of three is there beside two given ones
pub beside : (f g : ℕ) (list : List ℕ) → 3 ≤ length list → 1 ≤ times f list → 1 ≤ times g list → f ≢ g
    → (rest : List ℕ) × ((x : ℕ) × HaveSame list (x ∷ rest)) × (length list ≡ suc (length rest)) × (1 ≤ times f rest) × (1 ≤ times g rest)
beside f g list l a b n =
    let first = taken_out f list a in
    let left : 1 ≤ times g first.0 = omega (arith, b, first.1 g, times_cons g f first.0, one_else g f n) in
    let second = taken_out g first.0 left in
    third second.0 (omega (arith, l, first.2, second.2)) first.0 first.1 second.1 first.2 second.2
  where
    third : (rest : List ℕ) → 1 ≤ length rest → (first : List ℕ) → HaveSame list (f ∷ first) → HaveSame first (g ∷ rest) → length list ≡ suc (length first) → length first ≡ suc (length rest)
        → (rest : List ℕ) × ((x : ℕ) × HaveSame list (x ∷ rest)) × (length list ≡ suc (length rest)) × (1 ≤ times f rest) × (1 ≤ times g rest)
    third [] l first s u p q = absurd (omega (arith, l))
    third (x ∷ rest) l first s u p q = (
      f ∷ g ∷ rest,
      (x, λ o. omega (arith, s o, u o, times_cons o f first, times_cons o g (x ∷ rest), times_cons o x rest, times_cons o x (f ∷ g ∷ rest), times_cons o f (g ∷ rest), times_cons o g rest)),
      omega (arith, p, q),
      times_at f (g ∷ rest),
      omega (arith, times_cons g f (g ∷ rest), times_at g rest),
    )

more_shows : (t : TypeTable) (start : ℕ) (stock rest : List ℕ) (x f o r q : ℕ) → HaveSame stock (x ∷ rest) → Shows t start rest f o r q → Shows t start stock f o r q
more_shows t start stock rest x f o r q same s = record {
  before = s.before;
  after = s.after;
  within = λ p. omega (arith, s.within p, same p, times_cons p x rest);
  begins = s.begins;
  answer = s.answer;
  ends = s.ends;
}

-- a stock of three operations or more that splits does so with some operation less
pub less_splits : (t : TypeTable) (start : ℕ) (stock : List ℕ) → 3 ≤ length stock → StockSplits t start stock
    → (x : ℕ) × (rest : List ℕ) × HaveSame stock (x ∷ rest) × (length stock ≡ suc (length rest)) × StockSplits t start rest
less_splits t start stock l s =
    let apart : s.inside.0 ≢ s.outside.0 = λ e. true≢false (sym s.inside.2 ∙ (ap s.chosen e ∙ s.outside.2)) in
    let r = beside s.inside.0 s.outside.0 stock l s.inside.1 s.outside.1 apart in
    let x = r.1.0 in
    let same = r.1.1 in (
      x,
      r.0,
      same,
      r.2,
      record {
        chosen = s.chosen;
        inside = (s.inside.0, r.3, s.inside.2);
        outside = (s.outside.0, r.4, s.outside.2);
        apart = λ f g sure unsure j. s.apart f g sure unsure
            (j.0, j.1, j.2, more_shows t start stock r.0 x f j.0 j.1 j.2 same j.3, more_shows t start stock r.0 x g j.0 j.1 j.2 same j.4);
      },
    )

-- ---- the same of what records

ends_in_same : (t : TypeTable) (start f q : ℕ) (a b : List ℕ) → HaveSame a b → EndsIn t start a f q → EndsIn t start b f q
ends_in_same t start f q a b same e = (e.0, within_same a b (f ∷ e.0) same e.1, e.2)

two_same : (chosen : ℕ → Bool) (part : Bool) (a b : List ℕ) → HaveSame a b → HasTwoOf a chosen part → HasTwoOf b chosen part
two_same chosen part a b same h = (h.0, h.1, within_same a b (h.0 ∷ h.1 ∷ []) same h.2, h.3, h.4)

pub records_same : (t : TypeTable) (start : ℕ) (a b : List ℕ) → HaveSame a b → Records t start a → Records t start b
records_same t start a b same s =
    let back = same_sym a b same in record {
      chosen = s.chosen;
      inside = (s.inside.0, omega (arith, s.inside.1, same s.inside.0), s.inside.2);
      outside = (s.outside.0, omega (arith, s.outside.1, same s.outside.0), s.outside.2);
      apart = λ f g q yes no x y. s.apart f g q yes no (ends_in_same t start f q b a back x) (ends_in_same t start g q b a back y);
      no_way_back_inside = λ two f yes x. s.no_way_back_inside (two_same s.chosen false b a back two) f yes (ends_in_same t start f start b a back x);
      no_way_back_outside = λ two g no x. s.no_way_back_outside (two_same s.chosen true b a back two) g no (ends_in_same t start g start b a back x);
    }

within_more : (x : ℕ) (stock rest word : List ℕ) → HaveSame stock (x ∷ rest) → IsWithin rest word → IsWithin stock word
within_more x stock rest word same w o = omega (arith, w o, same o, times_cons o x rest)

pub less_records : (t : TypeTable) (start : ℕ) (stock : List ℕ) → 3 ≤ length stock → Records t start stock
    → (x : ℕ) × (rest : List ℕ) × HaveSame stock (x ∷ rest) × (length stock ≡ suc (length rest)) × Records t start rest
less_records t start stock l s =
    let apart : s.inside.0 ≢ s.outside.0 = λ e. true≢false (sym s.inside.2 ∙ (ap s.chosen e ∙ s.outside.2)) in
    let r = beside s.inside.0 s.outside.0 stock l s.inside.1 s.outside.1 apart in
    let x = r.1.0 in
    let same = r.1.1 in
    let ends : (f q : ℕ) → EndsIn t start r.0 f q → EndsIn t start stock f q = λ f q e. (e.0, within_more x stock r.0 (f ∷ e.0) same e.1, e.2) in
    let two : (part : Bool) → HasTwoOf r.0 s.chosen part → HasTwoOf stock s.chosen part = λ part h. (h.0, h.1, within_more x stock r.0 (h.0 ∷ h.1 ∷ []) same h.2, h.3, h.4) in (
      x,
      r.0,
      same,
      r.2,
      record {
        chosen = s.chosen;
        inside = (s.inside.0, r.3, s.inside.2);
        outside = (s.outside.0, r.4, s.outside.2);
        apart = λ f g q yes no a b. s.apart f g q yes no (ends f q a) (ends g q b);
        no_way_back_inside = λ h f yes a. s.no_way_back_inside (two false h) f yes (ends f start a);
        no_way_back_outside = λ h g no b. s.no_way_back_outside (two true h) g no (ends g start b);
      },
    )

-- whatever is asked
pub holds_same : (question : Question) (t : TypeTable) (start : ℕ) (a b : List ℕ) → HaveSame a b → Holds question t start a → Holds question t start b
holds_same Splitting t start a b same s = splits_same t start a b same s
holds_same Recording t start a b same s = records_same t start a b same s

pub less_holds : (question : Question) (t : TypeTable) (start : ℕ) (stock : List ℕ) → 3 ≤ length stock → Holds question t start stock
    → (x : ℕ) × (rest : List ℕ) × HaveSame stock (x ∷ rest) × (length stock ≡ suc (length rest)) × Holds question t start rest
less_holds Splitting t start stock l s = less_splits t start stock l s
less_holds Recording t start stock l s = less_records t start stock l s

module _ (question : Question) where
  one_less : (t : TypeTable) (n start : ℕ) → 2 ≤ n → HoldsFrom question t (n + 1) start → HoldsFrom question t n start
  one_less t n start l h =
      let r = less_holds question t start h.0 (omega (arith, l, h.2)) h.3 in
      (r.1, λ o k. h.1 o (omega (arith, k, r.2 o, times_cons o r.0 r.1)), omega (arith, r.3, h.2), r.4)

  -- where no stock of some number of operations has what is asked for from a state, no larger one has
  pub fewer : (t : TypeTable) (m more start : ℕ) → 2 ≤ m → HoldsFrom question t (m + more) start → HoldsFrom question t m start
  fewer t m zero start l h = let e : m + 0 ≡ m = omega arith in subst (λ (k : ℕ). HoldsFrom question t k start) e h
  fewer t m (suc more) start l h =
      let e : m + suc more ≡ m + more + 1 = omega arith in
      fewer t m more start l (one_less t (m + more) start (omega (arith, l)) (subst (λ (k : ℕ). HoldsFrom question t k start) e h))

  pub fewer_to : (t : TypeTable) (m n start : ℕ) → 2 ≤ m → m ≤ n → HoldsFrom question t n start → HoldsFrom question t m start
  fewer_to t m n start l u h = let e : n ≡ m + (n - m) = omega (arith, u) in fewer t m (n - m) start l (subst (λ (k : ℕ). HoldsFrom question t k start) e h)

  pub none_above : (t : TypeTable) (m : ℕ) → 2 ≤ m → ¬ SomeHolds question t m → (n : ℕ) → m ≤ n → ¬ SomeHolds question t n
  none_above t m l none n from s = none (s.0, s.1, fewer_to t m n s.0 l from s.2)

pub none_from : (t : TypeTable) (m most : ℕ) → 2 ≤ m → ¬ SomeSplits t m → NoneFrom t m most
none_from t m most l none n from to s = none_above Splitting t m l none n from s
