-- Which stocks could split, by the stocks of one operation less that tell.
use Rattle.std.proofs.Common.{◌≡◌, ◌≢◌, ℕ, ◌+◌, ◌-◌, ◌<◌, ◌≤◌, inl, inr, List, ◌∷◌, length, refl, sym, ap, ◌∙◌, subst, arith, true≢false, Option, Some, None, IfSome, IsTrue, is_none}
use Rattle.std.specs.Prelude.{slice_get}
use Rattle.cn_table.specs.TypeTable.{TypeTable}
use Rattle.cn_stocks.specs.declared.stocks.Stock.{Stock}
use Rattle.cn_stocks.specs.Greatest.{NoneFrom}
use Rattle.cn_stocks.specs.Splits.{SomeSplits, StockSplits}
use Rattle.cn_stocks.specs.Words.{HaveSame, times}
use Rattle.cn_stocks.proofs.Fewer.{beside, splits_same}
use Rattle.cn_stocks.proofs.SplitLemmas.{either}
use Rattle.cn_stocks.proofs.StockLemmas.{before_or_behind, items_of, stock_at}
use Rattle.cn_stocks.proofs.Times.{one_at, one_else, one_of, same_has, same_or, times_cons}
use Rattle.cn_telling.specs.declared.levels.Level.{Level}
use Rattle.cn_telling.specs.declared.search.Search.{Search}
use Rattle.cn_telling.specs.Candidates.{LacksStart, SplitsFromSome}
use Rattle.cn_telling.specs.Levels.{IsNext, IsSearch}
use Rattle.cn_telling.specs.Rows.{RowsDiffer}
use Rattle.cn_telling.specs.Telling.{SomeTells, Tells}
use Rattle.cn_telling.proofs.LevelLemmas.{starts_at}
use Rattle.cn_telling.proofs.RowLemmas.{rows_same, splits_by_rows}
use Rattle.cn_telling.proofs.TellLemmas.{fewer_tell, split_tells, split_without_one_tells}

-- where the part of the operation that is left out has another one, what is left tells
left_tells : (t : TypeTable) (start : ℕ) (stock : List ℕ) (x : ℕ) (rest : List ℕ) → HaveSame stock (x ∷ rest) → (s : StockSplits t start stock) → (z : ℕ) → 1 ≤ times z rest → s.chosen z ≡ s.chosen x → Tells t start rest
left_tells t start stock x rest same s z l e = elim (either (s.chosen x)) [
  | inl sure ↦ split_tells t start stock x rest same s (z, l, e ∙ sure) (s.outside.0, stays s.outside.0 s.outside.1 (λ h. true≢false (sym sure ∙ (ap s.chosen h ∙ s.outside.2))), s.outside.2)
  | inr unsure ↦ split_tells t start stock x rest same s (s.inside.0, stays s.inside.0 s.inside.1 (λ h. true≢false (sym s.inside.2 ∙ (ap s.chosen (sym h) ∙ unsure))), s.inside.2) (z, l, e ∙ unsure)
]
  where
    stays : (o : ℕ) → 1 ≤ times o stock → x ≢ o → 1 ≤ times o rest
    stays o some other = omega (arith, some, same o, times_cons o x rest, one_else o x other)

-- so two operations without which it does not tell are the whole stock
two_parts : (t : TypeTable) (start : ℕ) (stock : List ℕ) (x y : ℕ) (xs ys : List ℕ) → 3 ≤ length stock → x ≢ y → HaveSame stock (x ∷ xs) → HaveSame stock (y ∷ ys)
    → ¬ Tells t start xs → ¬ Tells t start ys → ¬ StockSplits t start stock
two_parts t start stock x y xs ys l other same_x same_y not_x not_y s =
    let has_x = same_has x stock xs same_x in
    let has_y = same_has y stock ys same_y in
    let r = beside x y stock l has_x has_y other in
    let z = r.1.0 in
    let still_x : 1 ≤ times z xs = still x y xs r.0 z same_x r.1.1 r.3 in
    let still_y : 1 ≤ times z ys = still y x ys r.0 z same_y r.1.1 r.4 in
    let y_in_xs : 1 ≤ times y xs = omega (arith, has_y, same_x y, times_cons y x xs, one_else y x other) in
    elim (either (s.chosen x)) [
      | inl a ↦ elim (either (s.chosen y)) [
        | inl b ↦ not_x (left_tells t start stock x xs same_x s y y_in_xs (b ∙ sym a))
        | inr b ↦ elim (either (s.chosen z)) [
          | inl c ↦ not_x (left_tells t start stock x xs same_x s z still_x (c ∙ sym a))
          | inr c ↦ not_y (left_tells t start stock y ys same_y s z still_y (c ∙ sym b))
        ]
      ]
      | inr a ↦ elim (either (s.chosen y)) [
        | inr b ↦ not_x (left_tells t start stock x xs same_x s y y_in_xs (b ∙ sym a))
        | inl b ↦ elim (either (s.chosen z)) [
          | inr c ↦ not_x (left_tells t start stock x xs same_x s z still_x (c ∙ sym a))
          | inl c ↦ not_y (left_tells t start stock y ys same_y s z still_y (c ∙ sym b))
        ]
      ]
    ]
  where
    -- one more operation is there without the one that is left out
    still : (x y : ℕ) (xs rest : List ℕ) (z : ℕ) → HaveSame stock (x ∷ xs) → HaveSame stock (z ∷ rest) → 1 ≤ times x rest → 1 ≤ times z xs
    still x y xs rest z same here l = elim (same_or x z) [
      | inl e ↦ (
          let k : 1 ≤ times z rest = subst (λ (o : ℕ). 1 ≤ times o rest) e l in
          omega (arith, k, same z, here z, times_cons z x xs, times_cons z z rest, one_at z, one_of z x e)
          )
      | inr n ↦ omega (arith, same z, here z, times_cons z x xs, times_cons z z rest, one_at z, one_else z x n)
    ]

-- a stock that lacks the start state without either of two operations does not split
pub lacks_two : (t : TypeTable) (level : Level) (stock : Stock) (start x y : ℕ) → IsNext t level stock → start < length t.states → 3 ≤ length stock.operations.items → x < y
    → LacksStart level stock start x → LacksStart level stock start y → ¬ StockSplits t start stock.operations.items
lacks_two t level stock start x y is below l order lacks_x lacks_y =
    let at_x = starts_at t level stock is x lacks_x.0 lacks_x.1 in
    let at_y = starts_at t level stock is y lacks_y.0 lacks_y.1 in
    two_parts t start stock.operations.items x y at_x.0 at_y.0 l (λ e. absurd (omega (arith, e, order))) at_x.1 at_y.1
    (λ tells. lacks_x.2 ((at_x.2 start).1 (below, tells))) (λ tells. lacks_y.2 ((at_y.2 start).1 (below, tells)))

-- ---- all stocks of one number of operations

pub search_next : (t : TypeTable) (n : ℕ) (s : Search) (i : ℕ) (stock : Stock) → IsSearch t n s → slice_get s.stocks.list.items i ≡ Some stock → IsNext t s.below stock
search_next t n s i stock is at = record { level_is = is.below; stock_is = is.stocks.stocks i stock at }

pub search_long : (t : TypeTable) (n : ℕ) (s : Search) (i : ℕ) (stock : Stock) → IsSearch t n s → slice_get s.stocks.list.items i ≡ Some stock → length stock.operations.items ≡ n
search_long t n s i stock is at = is.stocks.long i stock.operations.items (items_of s.stocks.list.items i stock at)

pub some_split : (t : TypeTable) (n : ℕ) (s : Search) (i : ℕ) (stock : Stock) → IsSearch t n s → slice_get s.stocks.list.items i ≡ Some stock → SplitsFromSome t stock.operations.items → SomeSplits t n
some_split t n s i stock is at h = (h.0, h.1, (stock.operations.items, (is.stocks.stocks i stock at).known, search_long t n s i stock is at, h.2))

-- the rows of one that splits differ
pub place_of_split : (t : TypeTable) (n : ℕ) (s : Search) → 3 ≤ n → IsSearch t n s → SomeSplits t n
    → (i : ℕ) × ((stock : Stock) × (slice_get s.stocks.list.items i ≡ Some stock) × RowsDiffer t stock.operations.items × SplitsFromSome t stock.operations.items)
place_of_split t n s some is h =
    let found = splits_by_rows t n h.0 some h.2 in
    let here = is.stocks.all found.0 found.1 found.2 in
    let stock = stock_at s.stocks.list.items here.0 here.1.0 here.1.1 in
    let same : HaveSame found.0 stock.0.operations.items = λ o. sym (here.1.2 o) ∙ ap (times o) (sym stock.2) in
    (here.0, (stock.0, stock.1, rows_same t found.0 stock.0.operations.items same found.3, (h.0, h.1, splits_same t h.0 found.0 stock.0.operations.items same found.4)))

-- ---- numbers of operations

-- where no stock of so many operations tells, none of two more splits
pub none_split : (t : TypeTable) (n most : ℕ) → 2 ≤ n → ¬ SomeTells t n → NoneFrom t (n + 1) most
none_split t n most two none m l u h =
    let e : m ≡ m - 1 + 1 = omega (arith, l) in
    none (fewer_tell t n (m - 1) two (omega (arith, l)) (split_without_one_tells t (m - 1) (omega (arith, l, two)) (subst (SomeSplits t) e h)))

pub none_split_from : (t : TypeTable) (n most : ℕ) → 2 ≤ n → ¬ SomeTells t n → ¬ SomeSplits t n → NoneFrom t n most
none_split_from t n most two none last m l u h = elim (before_or_behind n m) [
  | inl above ↦ none_split t n most two none m (omega (arith, above)) u h
  | inr same ↦ (let e : m ≡ n = omega (arith, same, l) in last (subst (SomeSplits t) e h))
]

-- no second operation is found
pub no_second : (t : TypeTable) (level : Level) (stock : Stock) (start first : ℕ) → IsNext t level stock → start < length t.states → 3 ≤ length stock.operations.items
    → StockSplits t start stock.operations.items → LacksStart level stock start first → (second : Option ℕ) → IfSome second (λ x. (first + 1 ≤ x) × (x < 8) × LacksStart level stock start x)
    → IsTrue (is_none second)
no_second t level stock start first is below l s lacks None found = refl
no_second t level stock start first is below l s lacks (Some x) found = absurd (lacks_two t level stock start first x is below l (omega (arith, found.0)) lacks found.2 s)
