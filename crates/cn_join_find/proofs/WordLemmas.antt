-- Words within stocks, step by step.
use Rattle.std.proofs.Common.{◌≡◌, ◌≢◌, ℕ, ◌<◌, ◌≤◌, ◌⊎◌, inl, inr, List, [], ◌∷◌, ◌++◌, length, get_or, refl, sym, ap, ◌∙◌, subst, arith, Some, append_assoc}
use Rattle.cn_table.specs.TypeTable.{TypeTable, transition}
use Rattle.cn_table.specs.Run.{responses_along, state_after}
use Rattle.cn_joins.specs.Joins.{PlacedWord}
use Rattle.cn_joins.proofs.PlacedWords.{asked_is, first_is, place_known, response_is}
use Rattle.cn_stocks.specs.declared.stocks.Stock.{Stock}
use Rattle.cn_stocks.specs.Reach.{EndsWithin, ShowsAtOnce, ShowsWithin}
use Rattle.cn_stocks.specs.Stocks.{AreSmallerStocks, AreStocks, items_at}
use Rattle.cn_stocks.specs.Words.{HaveSame, IsKnown, IsWithin, Shows, times}
use Rattle.cn_stocks.proofs.Steps.{EndsPart, ShowsPart, ends_all, shown_all}
use Rattle.cn_stocks.proofs.StockLemmas.{length_last, removal_of, stock_at}
use Rattle.cn_stocks.proofs.Times.{times_cons, times_none}
use Rattle.cn_telling.proofs.CellLemmas.{none_appended}
use Rattle.cn_join_find.specs.Steps.{EndsBehind, IsShowing, LeadsTo, LeadsToShow, ShowsBehind}

-- ---- the stock at a place

pub removal_at : (n : ℕ) (list : List Stock) (place : ℕ) (items : List ℕ) → AreStocks n list list → items_at list place ≡ Some items → (x : ℕ) → 1 ≤ times x items
    → (rest : List ℕ) × HaveSame items (x ∷ rest)
removal_at n list place items are at =
    let s = stock_at list place items at in
    removal_of list items s.0.less (subst (λ (l : List ℕ). AreSmallerStocks list l s.0.less) s.2 (are place s.0 s.1).smaller)

pub known_at : (n : ℕ) (list : List Stock) (place : ℕ) (items : List ℕ) → AreStocks n list list → items_at list place ≡ Some items → IsKnown n items
known_at n list place items are at = let s = stock_at list place items at in subst (IsKnown n) s.2 (are place s.0 s.1).known

-- ---- one operation more

joined : (x : ℕ) (old mid word : List ℕ) → mid ≡ old ++ x ∷ [] → mid ++ word ≡ old ++ x ∷ word
joined x old mid word e = ap (λ (l : List ℕ). l ++ word) e ∙ append_assoc old (x ∷ []) word

module _ (t : TypeTable) (start : ℕ) (stock : List ℕ) where
  within_first : (x : ℕ) (rest word : List ℕ) → HaveSame stock (x ∷ rest) → IsWithin rest word → IsWithin stock (x ∷ word)
  within_first x rest word s w o = omega (arith, s o, w o, times_cons o x rest, times_cons o x word)

  pub way_none : (goal : ℕ) (old : List ℕ) → start ≡ goal → LeadsTo t start stock goal old old
  way_none goal old e = ([], λ o. omega (arith, times_none o), e, none_appended old)

  pub way_on : (x : ℕ) (rest : List ℕ) (goal : ℕ) (old mid new : List ℕ) → HaveSame stock (x ∷ rest) → mid ≡ old ++ x ∷ [] → LeadsTo t (transition t x start).1 rest goal mid new
      → LeadsTo t start stock goal old new
  way_on x rest goal old mid new same pushed w = (x ∷ w.0, within_first x rest w.0 same w.1, w.2, w.3 ∙ joined x old mid w.0 pushed)

  pub shown_on : (x : ℕ) (rest : List ℕ) (o r q : ℕ) (old mid new : List ℕ) (at : ℕ) → HaveSame stock (x ∷ rest) → mid ≡ old ++ x ∷ []
      → LeadsToShow t (transition t x start).1 rest o r q mid new at → LeadsToShow t start stock o r q old new at
  shown_on x rest o r q old mid new at same pushed s = record {
    shows = record {
      before = x ∷ s.shows.before;
      after = s.shows.after;
      within = within_first x rest (s.shows.before ++ o ∷ s.shows.after) same s.shows.within;
      answer = s.shows.answer;
      ends = s.shows.ends;
    };
    goes_on = s.goes_on ∙ joined x old mid (s.shows.before ++ o ∷ s.shows.after) pushed;
    place_is = omega (arith, s.place_is, ap length pushed, length_last old x);
  }

  pub shown_at_once : (o r q : ℕ) (rest old mid new : List ℕ) (at : ℕ) → HaveSame stock (o ∷ rest) → (transition t o start).0 ≡ r → mid ≡ old ++ o ∷ [] → at ≡ length old
      → LeadsTo t (transition t o start).1 rest q mid new → LeadsToShow t start stock o r q old new at
  shown_at_once o r q rest old mid new at same answer pushed here w = record {
    shows = record { before = []; after = w.0; within = within_first o rest w.0 same w.1; answer = answer; ends = w.2 };
    goes_on = w.3 ∙ joined o old mid w.0 pushed;
    place_is = omega (arith, here);
  }

  -- ---- whole words

  pub showing : (f o r q : ℕ) (s : Shows t start stock f o r q) (w : PlacedWord) → w.word ≡ s.before ++ o ∷ s.after → w.place ≡ length s.before → IsShowing t start stock f o r q w
  showing f o r q s w word place =
      let answer : get_or (responses_along t start w.word) w.place 0 ≡ r = ap (λ (i : ℕ). get_or (responses_along t start w.word) i 0) place
      ∙ (ap (λ (l : List ℕ). get_or (responses_along t start l) (length s.before) 0) word ∙ response_is t start stock f o r q s) in
      let ends : state_after t start w.word ≡ q = ap (λ (l : List ℕ). state_after t start l) word ∙ s.ends in record {
        within = subst (IsWithin stock) (sym word) s.within;
        has_place = omega (arith, place_known t start stock f o r q s, place, ap length word);
        begins = ap (λ (l : List ℕ). get_or l 0 0) word ∙ first_is t start stock f o r q s;
        asked_is = ap (λ (i : ℕ). get_or w.word i 0) place ∙ (ap (λ (l : List ℕ). get_or l (length s.before) 0) word ∙ asked_is t start stock f o r q s);
        pair = ap (λ (x : ℕ). (x, state_after t start w.word)) answer ∙ ap (λ (y : ℕ). (r, y)) ends;
      }

  pub first_at_once : (f o r q : ℕ) (rest word : List ℕ) (w : PlacedWord) → f ≡ o → HaveSame stock (o ∷ rest) → (transition t o start).0 ≡ r
      → LeadsTo t (transition t o start).1 rest q (f ∷ []) word → w.word ≡ word → w.place ≡ 0 → IsShowing t start stock f o r q w
  first_at_once f o r q rest word w e same answer l is place =
      showing f o r q (record { before = []; after = l.0; within = within_first o rest l.0 same l.1; begins = sym e; answer = answer; ends = l.2 }) w (is ∙ (l.3 ∙ ap (λ (x : ℕ). x ∷ l.0) e)) place

  pub first_shown : (f o r q : ℕ) (rest word : List ℕ) (at : ℕ) (w : PlacedWord) → HaveSame stock (f ∷ rest) → LeadsToShow t (transition t f start).1 rest o r q (f ∷ []) word at
      → w.word ≡ word → w.place ≡ at → IsShowing t start stock f o r q w
  first_shown f o r q rest word at w same s is place =
      showing f o r q (record {
        before = f ∷ s.shows.before;
        after = s.shows.after;
        within = within_first f rest (s.shows.before ++ o ∷ s.shows.after) same s.shows.within;
        begins = refl;
        answer = s.shows.answer;
        ends = s.shows.ends;
      }) w (is ∙ s.goes_on) (omega (arith, place, s.place_is))

  -- ---- some first step

  module _ (removal : (x : ℕ) → 1 ≤ times x stock → (rest : List ℕ) × HaveSame stock (x ∷ rest)) (k : ℕ) (known : IsKnown k stock) where
    pub some_step : (goal : ℕ) → start ≢ goal → EndsWithin t start stock goal → (x : ℕ) × (x < k) × EndsBehind t start stock goal x
    some_step goal n e = elim ((ends_all t start stock removal k known goal ((goal ≡ start) ⊎ ((x : ℕ) × (x < k) × EndsPart t start stock goal x)) (λ h. h, λ h. h)).1 e)
        [ inl s ↦ absurd (n (sym s)) | inr r ↦ r ]

    pub some_shown : (o r q : ℕ) → ShowsWithin t start stock o r q → ShowsAtOnce t start stock o r q ⊎ ((x : ℕ) × (x < k) × ShowsBehind t start stock o r q x)
    some_shown o r q s = (shown_all t start stock removal k known o r q (ShowsAtOnce t start stock o r q ⊎ ((x : ℕ) × (x < k) × ShowsPart t start stock o r q x)) (λ h. h, λ h. h)).1 s
