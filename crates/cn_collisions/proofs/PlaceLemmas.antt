-- The stock of a list, operation by operation.
use Rattle.std.proofs.Common.{◌≡◌, ℕ, suc, ◌+◌, ◌-◌, ◌<◌, ◌≤◌, inl, inr, List, [], ◌∷◌, ◌++◌, length, get_or, map, take, refl, sym, ap, ◌∙◌, subst, arith, Some, All}
use Rattle.std.specs.Prelude.{slice_get, slice_index, slice_index_or}
use Rattle.std.proofs.Math.Seq.{take-suc}
use Rattle.std.proofs.lemmas.List.{length-map, take_all}
use Rattle.cn_choice.proofs.ListLemmas.Arrangements.{taken_long}
use Rattle.cn_outcomes.proofs.Packing.{below_or_last}
use Rattle.cn_stocks.specs.declared.stocks.Stocks.{Stocks}
use Rattle.cn_stocks.specs.Stocks.{UpTo, items_at}
use Rattle.cn_stocks.specs.Words.{HaveSame, IsWithin, times}
use Rattle.cn_stocks.proofs.Growing.{some_items}
use Rattle.cn_stocks.proofs.StockLemmas.{before_or_behind, items_within, length_last}
use Rattle.cn_stocks.proofs.Times.{one, one_at, one_else, place_in, same_or, times_append, times_last, times_none}
use Rattle.cn_stocks.proofs.WordOrders.{to_taken}
use Rattle.cn_collisions.specs.Levels.{AreLevels}
use Rattle.cn_collisions.specs.Places.{IsGathered, IsUpTo}
use Rattle.cn_collisions.specs.Stands.{StandsAt, StandsIn}
use Rattle.cn_collisions.specs.declared.places.StockPlace.{StockPlace}
use Rattle.cn_collisions.specs.declared.sets.Sets.{Sets}
use Rattle.cn_collisions.proofs.LevelLemmas.{some_at}

map_same : (xs : List ℕ) → map (λ (x : ℕ). x) xs ≡ xs
map_same [] = refl
map_same (x ∷ xs) = ap (λ (l : List ℕ). x ∷ l) (map_same xs)

-- a word is not longer than a stock that it is within
pub within_length : (stock word : List ℕ) → IsWithin stock word → length word ≤ length stock
within_length stock word w =
    let taken = to_taken (λ (x : ℕ). x) word stock (subst (λ (s : List ℕ). IsWithin s word) (sym (map_same stock)) w) in
    let same : length taken.0 ≡ length word = sym (length-map taken.0 (λ (x : ℕ). x)) ∙ ap length taken.2 in
    omega (arith, same, taken_long taken.0 stock taken.1)

pub same_length : (a b : List ℕ) → HaveSame a b → length a ≡ length b
same_length a b s = omega (arith, within_length a b (λ o. omega (arith, s o)), within_length b a (λ o. omega (arith, s o)))

-- one element more
pub take_times : (o k : ℕ) (xs : List ℕ) → k < length xs → times o (take (k + 1) xs) ≡ times o (take k xs) + one o (get_or xs k 0)
take_times o k xs l =
    let next : suc k ≡ k + 1 = omega arith in
    ap (λ (i : ℕ). times o (take i xs)) (sym next) ∙ (ap (times o) (take-suc xs k 0 l) ∙ times_last o (get_or xs k 0) (take k xs))

module _ (list : List ℕ) (end : ℕ) where
  pub gathered_start : (stock : List ℕ) → IsUpTo list end stock → IsGathered list end 0 stock
  gathered_start stock u = record { below = u.below; here = omega (arith, u.none end (omega arith), times_none end); none = λ o l. u.none o (omega (arith, l)) }

  pub gathered_end : (k : ℕ) (stock : List ℕ) → k ≡ times end list → IsGathered list end k stock → IsUpTo list (end + 1) stock
  gathered_end k stock e g = record {
    below = λ o l. elim (below_or_last o end l) [
      | inl b ↦ g.below o b
      | inr s ↦ subst (λ (x : ℕ). times x stock ≡ times x list) (sym s) (g.here ∙ e)
    ];
    none = g.none;
  }

  -- one more of the operation
  module _ (k : ℕ) (stock : List ℕ) (l : k < times end list) (g : IsGathered list end k stock) where
    pub gathered_up_to : UpTo end stock
    gathered_up_to o h = elim (before_or_behind o (end + 1)) [ inl u ↦ omega (arith, u) | inr u ↦ absurd (omega (arith, h, g.none o u)) ]

    pub gathered_more : IsGathered list end (k + 1) (stock ++ end ∷ [])
    gathered_more = record {
      below = λ o b. omega (arith, g.below o b, times_last o end stock, one_else o end (λ s. absurd (omega (arith, b, s))));
      here = omega (arith, g.here, times_last end end stock, one_at end);
      none = λ o u. omega (arith, g.none o u, times_last o end stock, one_else o end (λ s. absurd (omega (arith, u, s))));
    }

    pub gathered_room : length stock < length list
    gathered_room = omega (arith, length_last stock end, within_length list (stock ++ end ∷ []) within)
      where
        more : IsGathered list end (k + 1) (stock ++ end ∷ [])
        more = gathered_more

        within : IsWithin list (stock ++ end ∷ [])
        within o = elim (before_or_behind o end) [
          | inl b ↦ omega (arith, more.below o b)
          | inr u ↦ elim (same_or o end) [
            | inl s ↦ subst (λ (x : ℕ). times x (stock ++ end ∷ []) ≤ times x list) (sym s) (omega (arith, more.here, l))
            | inr n ↦ omega (arith, more.none o (omega (arith, u, n)))
          ]
        ]

module _ (operations count : ℕ) (levels : List Stocks) (are : AreLevels operations count levels) where
  -- the stock of no operation
  pub stands_none : 1 ≤ count → StandsIn levels 0 0 []
  stands_none some =
      let s = some_at levels 0 (omega (arith, are.long, some)) in
      let all = are.first s.0 s.1 in
      let there = all.all [] (λ o l. absurd (omega (arith, l, times_none o))) refl in
      let here = some_items s.0.list.items 0 (let l = items_within s.0.list.items there.0 there.1.0 there.1.1 in omega (arith, l)) in
      let none = empty here.0 (all.long 0 here.0 here.1) in
      (s.0, s.1, subst (λ (items : List ℕ). items_at s.0.list.items 0 ≡ Some items) none here.1)
    where
      empty : (xs : List ℕ) → length xs ≡ 0 → xs ≡ []
      empty [] l = refl
      empty (x ∷ xs) l = absurd (omega (arith, l))

  -- the stock with one more of an operation that is not below its own
  pub stands_child : (size place operation : ℕ) (stock : List ℕ) (x : Stocks) → StandsIn levels size place stock → slice_get levels (size + 1) ≡ Some x → operation < operations → UpTo operation stock
      → (place < length x.children.items) × StandsIn levels (size + 1) (slice_index (slice_index_or x.children.items place []) operation) (stock ++ operation ∷ [])
  stands_child size place operation stock x stands at known up =
      let next : size + 1 ≡ suc size = omega arith in
      let all = are.next size stands.0 x stands.1 (subst (λ (i : ℕ). slice_get levels i ≡ Some x) next at) in
      let inside : place < length x.children.items = omega (arith, all.count, items_within stands.0.list.items place stock stands.2) in
      (inside, (x, at, all.children place inside stock stands.2 operation known up))

-- the stock of the whole list
pub up_to_all : (list stock : List ℕ) (operations : ℕ) → All (λ o. o < operations) list → IsUpTo list operations stock → HaveSame list stock
up_to_all list stock operations known u o = elim (before_or_behind o operations) [
  | inl b ↦ sym (u.below o b)
  | inr a ↦ elim (before_or_behind 0 (times o list)) [
    | inl some ↦ (let p = place_in o list (omega (arith, some)) in absurd (let b = known p.0 0 p.1 in omega (arith, a, b, p.2)))
    | inr none ↦ omega (arith, none, u.none o a)
  ]
]

pub up_to_none : (list : List ℕ) → IsUpTo list 0 []
up_to_none list = record { below = λ o l. absurd (omega (arith, l)); none = λ o l. times_none o }

-- the stock has what is taken of both lists, and no operation above the last one
pub record IsMerged (a b : List ℕ) (from_a from_b last : ℕ) (stock : List ℕ) : Type 0 where
  pub up : UpTo last stock
  pub same : (o : ℕ) → times o stock ≡ times o (take from_a a) + times o (take from_b b)

pub merged_none : (a b : List ℕ) → IsMerged a b 0 0 0 []
merged_none a b = record { up = λ o l. absurd (omega (arith, l, times_none o)); same = λ o. omega (arith, times_none o) }

module _ (a b : List ℕ) (from_a from_b last : ℕ) (stock : List ℕ) (is : IsMerged a b from_a from_b last stock) where
  pub up_to_next : (x : ℕ) → last ≤ x → UpTo x stock
  up_to_next x l o h = omega (arith, is.up o h, l)

  up_to_pushed : (x : ℕ) → last ≤ x → UpTo x (stock ++ x ∷ [])
  up_to_pushed x l o h = elim (same_or x o) [
    | inl e ↦ omega (arith, e)
    | inr n ↦ omega (arith, l, is.up o (omega (arith, h, times_last o x stock, one_else o x n)))
  ]

  -- with the next of either list
  pub merged_first : (x : ℕ) → last ≤ x → from_a < length a → x ≡ get_or a from_a 0 → IsMerged a b (from_a + 1) from_b x (stock ++ x ∷ [])
  merged_first x l inside e = record {
    up = up_to_pushed x l;
    same = λ o. (let more = subst (λ (y : ℕ). times o (take (from_a + 1) a) ≡ times o (take from_a a) + one o y) (sym e) (take_times o from_a a inside) in
        omega (arith, more, is.same o, times_last o x stock));
  }

  pub merged_second : (x : ℕ) → last ≤ x → from_b < length b → x ≡ get_or b from_b 0 → (next : ℕ) → next ≡ from_b + 1 → IsMerged a b from_a next x (stock ++ x ∷ [])
  merged_second x l inside e next f = subst (λ (k : ℕ). IsMerged a b from_a k x (stock ++ x ∷ [])) (sym f) (record {
    up = up_to_pushed x l;
    same = λ o. (let more = subst (λ (y : ℕ). times o (take (from_b + 1) b) ≡ times o (take from_b b) + one o y) (sym e) (take_times o from_b b inside) in
        omega (arith, more, is.same o, times_last o x stock));
  })

  pub merged_whole : length a ≤ from_a → length b ≤ from_b → HaveSame (a ++ b) stock
  merged_whole l m o =
      let first : times o (take from_a a) ≡ times o a = ap (times o) (take_all from_a a l) in
      let second : times o (take from_b b) ≡ times o b = ap (times o) (take_all from_b b m) in
      omega (arith, is.same o, first, second, times_append o a b)

-- so much is taken of both lists, of the first so many, and its stock stands there
pub record IsWalked (sets : Sets) (a b : List ℕ) (taken from_a last : ℕ) (at : StockPlace) : Type 0 where
  pub order : from_a ≤ taken
  pub first : from_a ≤ length a
  pub second : taken - from_a ≤ length b
  pub size : at.size ≡ taken
  pub stock : List ℕ
  pub stands : StandsAt sets at.size at.place stock
  pub merged : IsMerged a b from_a (taken - from_a) last stock

module _ (sets : Sets) (a b : List ℕ) (taken from_a last : ℕ) (at : StockPlace) (is : IsWalked sets a b taken from_a last at) (x : ℕ) (l : last ≤ x) (next : StockPlace)
    (size : next.size ≡ at.size + 1)
    (child : (stock : List ℕ) → StandsAt sets at.size at.place stock → UpTo x stock → StandsAt sets next.size next.place (stock ++ x ∷ [])) where
  stands_next : StandsAt sets next.size next.place (is.stock ++ x ∷ [])
  stands_next = child is.stock is.stands (up_to_next a b from_a (taken - from_a) last is.stock is.merged x l)

  pub walked_first : (more : ℕ) → more ≡ from_a + 1 → from_a < length a → x ≡ get_or a from_a 0 → IsWalked sets a b (taken + 1) more x next
  walked_first more f inside e = subst (λ (k : ℕ). IsWalked sets a b (taken + 1) k x next) (sym f) (record {
    order = omega (arith, is.order);
    first = omega (arith, inside);
    second = omega (arith, is.second, is.order);
    size = omega (arith, size, is.size);
    stock = is.stock ++ x ∷ [];
    stands = stands_next;
    merged = (let same : taken - from_a ≡ taken + 1 - (from_a + 1) = omega (arith, is.order) in
        subst (λ (k : ℕ). IsMerged a b (from_a + 1) k x (is.stock ++ x ∷ [])) same (merged_first a b from_a (taken - from_a) last is.stock is.merged x l inside e));
  })

  pub walked_second : (more : ℕ) → more ≡ from_a → taken - from_a < length b → x ≡ get_or b (taken - from_a) 0 → IsWalked sets a b (taken + 1) more x next
  walked_second more f inside e = subst (λ (k : ℕ). IsWalked sets a b (taken + 1) k x next) (sym f) (record {
    order = omega (arith, is.order);
    first = is.first;
    second = omega (arith, inside, is.order);
    size = omega (arith, size, is.size);
    stock = is.stock ++ x ∷ [];
    stands = stands_next;
    merged = merged_second a b from_a (taken - from_a) last is.stock is.merged x l inside e (taken + 1 - from_a) (omega (arith, is.order));
  })
