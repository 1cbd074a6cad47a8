-- Words of a table, and what they show.
use Rattle.std.proofs.Common.{◌≡◌, ℕ, zero, suc, ◌<◌, List, [], ◌∷◌, length, get_or, take, refl, sym, ap, ◌∙◌, subst, arith, All, Bool, ◌↔◌}
use Rattle.std.specs.Prelude.{IsTrue}
use Rattle.std.proofs.lemmas.List.{get_or_default}
use Rattle.cn_table.specs.TypeTable.{TypeTable, transition}
use Rattle.cn_table.specs.Run.{responses_along, state_after}
use Rattle.cn_stocks.specs.Words.{IsKnown}
use Rattle.cn_joins.specs.Joins.{IsPlacedWord, PlacedWord, pair_of_word}
use Rattle.cn_stocks.proofs.Times.{place_in, times_of_place}

pub all_below : (k : ℕ) (word : List ℕ) → IsKnown k word → All (λ o. o < k) word
all_below k word known =
    λ i d l. subst (λ (x : ℕ). x < k) (get_or_default word i 0 d l) (known (get_or word i 0) (times_of_place word i l))

pub known_below : (k : ℕ) (word : List ℕ) → All (λ o. o < k) word → IsKnown k word
known_below k word all o l = let p = place_in o word l in subst (λ (x : ℕ). x < k) p.2 (all p.0 0 p.1)

-- the response at a place
pub answer_at : (t : TypeTable) (s : ℕ) (word : List ℕ) (place : ℕ) → place < length word
    → get_or (responses_along t s word) place 0 ≡ (transition t (get_or word place 0) (state_after t s (take place word))).0
answer_at t s [] place l = absurd (omega arith)
answer_at t s (o ∷ word) zero l = refl
answer_at t s (o ∷ word) (suc place) l = answer_at t (transition t o s).1 word place (omega arith)

-- ---- the word of a placed word

pub word_by : (t : TypeTable) (word : List ℕ) (place : ℕ) (b : Bool) → place < length word → IsTrue b ↔ All (λ o. o < length t.operations) word
    → IsTrue b ↔ IsPlacedWord t (record { word = word; place = place })
word_by t word place b short all = (
  λ yes. record { known = known_below (length t.operations) word (all.0 yes); has_place = short },
  λ is. all.1 (all_below (length t.operations) word is.known),
)

pub known_through : (k p : ℕ) (s a : List ℕ) (w : PlacedWord) → s ≡ a → ◌≡◌ {A = PlacedWord} (record { word = a; place = p }) w → IsKnown k w.word → All (λ o. o < k) s
known_through k p s a w e f known = all_below k s (subst (λ (x : List ℕ). IsKnown k x) (sym (e ∙ ap (λ (v : PlacedWord). v.word) f)) known)

pub long_through : (p : ℕ) (s a : List ℕ) (w : PlacedWord) → s ≡ a → ◌≡◌ {A = PlacedWord} (record { word = a; place = p }) w → w.place < length w.word → p < length s
long_through p s a w e f l =
    let same : s ≡ w.word = e ∙ ap (λ (v : PlacedWord). v.word) f in
    let place : p ≡ w.place = ap (λ (v : PlacedWord). v.place) f in
    let long : length s ≡ length w.word = ap (λ (x : List ℕ). length x) same in
    omega (arith, place, long, l)

pairs_same : (a b c d : ℕ) → a ≡ c → b ≡ d → ◌≡◌ {A = ℕ × ℕ} (a, b) (c, d)
pairs_same a b c d e f = rw (e, f) refl

-- what is found at the place, and behind the word
pub pair_by : (t : TypeTable) (start p r q before left : ℕ) (s a : List ℕ) (w : PlacedWord) → s ≡ a → ◌≡◌ {A = PlacedWord} (record { word = a; place = p }) w → w.place < length w.word
    → ◌≡◌ {A = ℕ × ℕ} (r, q) (transition t (get_or s p 0) before) → before ≡ state_after t start (take p s) → left ≡ state_after t start s → ◌≡◌ {A = ℕ × ℕ} (r, left) (pair_of_word t start w)
pair_by t start p r q before left s a w e f l answer b after =
    let l = long_through p s a w e f l in
    let first : r ≡ (transition t (get_or s p 0) before).0 = ap (λ (x : ℕ × ℕ). x.0) answer in
    let moved : (transition t (get_or s p 0) before).0 ≡ (transition t (get_or s p 0) (state_after t start (take p s))).0 = ap (λ (x : ℕ). (transition t (get_or s p 0) x).0) b in
    let whole : ◌≡◌ {A = PlacedWord} (record { word = s; place = p }) w = ap (λ (x : List ℕ). record { word = x; place = p }) e ∙ f in
    subst (λ (v : PlacedWord). ◌≡◌ {A = ℕ × ℕ} (r, left) (pair_of_word t start v)) whole
    (pairs_same r left (get_or (responses_along t start s) p 0) (state_after t start s) (first ∙ (moved ∙ sym (answer_at t start s p l))) after)
