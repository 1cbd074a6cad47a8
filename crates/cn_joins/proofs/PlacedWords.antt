-- Words with a place, and what they show there.
use Rattle.std.proofs.Common.{◌≡◌, ℕ, zero, suc, ◌<◌, ◌≤◌, List, [], ◌∷◌, ◌++◌, length, get_or, refl, sym, ap, ◌∙◌, subst, arith, length-append}
use Rattle.cn_table.specs.TypeTable.{TypeTable, transition}
use Rattle.cn_table.specs.Run.{responses_along, state_after}
use Rattle.cn_stocks.specs.Words.{BeginsWith, IsWithin, Shows}
use Rattle.cn_joins.specs.Joins.{PlacedWord, asked, beginning, pair_of_word}

-- a word is cut at a place
record Cut (word : List ℕ) (place : ℕ) : Type 0 where
  before : List ℕ
  after : List ℕ
  whole : word ≡ before ++ get_or word place 0 ∷ after
  long : length before ≡ place

cut : (word : List ℕ) (place : ℕ) → place < length word → Cut word place
cut [] place l = absurd (omega arith)
cut (x ∷ xs) zero l = record { before = []; after = xs; whole = refl; long = refl }
cut (x ∷ xs) (suc place) l =
    let r = cut xs place (omega arith) in record { before = x ∷ r.before; after = r.after; whole = ap (λ (ys : List ℕ). x ∷ ys) r.whole; long = omega (arith, r.long) }

-- the element behind some others
pub there : (before after : List ℕ) (o : ℕ) → get_or (before ++ o ∷ after) (length before) 0 ≡ o
there [] after o = refl
there (x ∷ before) after o = there before after o

pub answer_there : (t : TypeTable) (s : ℕ) (before after : List ℕ) (o : ℕ) → get_or (responses_along t s (before ++ o ∷ after)) (length before) 0 ≡ (transition t o (state_after t s before)).0
answer_there t s [] after o = refl
answer_there t s (x ∷ before) after o = answer_there t (transition t x s).1 before after o

begins_at : (word : List ℕ) → 1 ≤ length word → BeginsWith (get_or word 0 0) word
begins_at [] l = absurd (omega arith)
begins_at (x ∷ xs) l = refl

pub begun_by : (f : ℕ) (word : List ℕ) → BeginsWith f word → get_or word 0 0 ≡ f
begun_by f [] b = absurd b
begun_by f (x ∷ xs) b = b

-- a word shows the operation at its place what it shows there
pub shows : (t : TypeTable) (start : ℕ) (stock : List ℕ) (w : PlacedWord) → w.place < length w.word → IsWithin stock w.word
    → Shows t start stock (beginning w) (asked w) (pair_of_word t start w).0 (pair_of_word t start w).1
shows t start stock w l within =
    let c = cut w.word w.place l in
    let o = asked w in record {
      before = c.before;
      after = c.after;
      within = subst (λ (word : List ℕ). IsWithin stock word) c.whole within;
      begins = subst (λ (word : List ℕ). BeginsWith (beginning w) word) c.whole (begins_at w.word (omega (arith, l)));
      answer = sym (answer_there t start c.before c.after o) ∙ (ap (λ (i : ℕ). get_or (responses_along t start (c.before ++ o ∷ c.after)) i 0) c.long
          ∙ ap (λ (word : List ℕ). get_or (responses_along t start word) w.place 0) (sym c.whole));
      ends = ap (λ (word : List ℕ). state_after t start word) (sym c.whole);
    }

-- the place of what a word shows
module _ (t : TypeTable) (start : ℕ) (stock : List ℕ) (f o r q : ℕ) (s : Shows t start stock f o r q) where
  abbrev pub word_of : PlacedWord
  word_of = record { word = s.before ++ o ∷ s.after; place = length s.before }

  pub place_known : length s.before < length (s.before ++ o ∷ s.after)
  place_known = let l = length-append s.before (o ∷ s.after) in omega (arith, l)

  pub first_is : beginning word_of ≡ f
  first_is = begun_by f (s.before ++ o ∷ s.after) s.begins

  pub asked_is : asked word_of ≡ o
  asked_is = there s.before s.after o

  pub response_is : get_or (responses_along t start (s.before ++ o ∷ s.after)) (length s.before) 0 ≡ r
  response_is = answer_there t start s.before s.after o ∙ s.answer
