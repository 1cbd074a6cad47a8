-- All stocks of one number of operations.
use Rattle.std.proofs.Common.{◌∷◌, ◌≡◌, ◌≢◌, ℕ, ◌^◌, ◌<◌, ◌≤◌, inl, inr, List, [], length, get_or, refl, sym, ap, ◌∙◌, subst, arith, All, Option, Some, None}
use Rattle.std.specs.Prelude.{IsBitSet, slice_index_or}
use Rattle.std.proofs.lemmas.Option.{get_or_from_slice_get, same_Some, slice_get-get_or, slice_get_within}
use Rattle.cn_table.specs.TypeTable.{TypeTable}
use Rattle.cn_outcomes.proofs.LastProcess.{zero_has_none}
use Rattle.cn_stocks.specs.Reach.{AreEnds}
use Rattle.cn_stocks.specs.Stocks.{AreStocks}
use Rattle.cn_stocks.specs.Words.{HaveSame, times}
use Rattle.cn_stocks.specs.declared.stocks.Stock.{Stock}
use Rattle.cn_stocks.proofs.PairLemmas.{some_bit}
use Rattle.cn_stocks.proofs.StockLemmas.{before_or_behind, by_option, items_of, items_within, stock_at}
use Rattle.cn_stocks.proofs.Times.{same_has, same_rest}
use Rattle.cn_stocks.proofs.Zips.{zip_at, zip_back, zip_long, zip_none}
use Rattle.cn_telling.specs.declared.ends.Ends.{Ends}
use Rattle.cn_telling.specs.declared.levels.Level.{Level}
use Rattle.cn_telling.specs.declared.search.Search.{Search}
use Rattle.cn_telling.specs.Greatest.{IsGreatestTold}
use Rattle.cn_telling.specs.Levels.{AreStarts, HasLessStarts, IsLevel, IsNext, IsSearch}
use Rattle.cn_telling.specs.Settings.{IsOver}
use Rattle.cn_telling.specs.Telling.{SomeTells, Tells, TellsFrom}
use Rattle.cn_telling.proofs.TellLemmas.{less_tells, tells_same}

-- ---- a stock over the level

pub over_level : (t : TypeTable) (level : Level) (stock : Stock) → IsNext t level stock → IsOver t level.stocks.list.items level.ends.items stock
over_level t level stock is =
    let fit : Stock → Ends → Type 0 = λ stock ends. AreEnds t stock.operations.items (length t.states) ends.states in
    record {
      stock_is = is.stock_is;
      ends_are = λ j s e at there. (
          let r = zip_at fit level.stocks.list.items level.ends.items is.level_is.ends j s at in
          subst (λ (x : Ends). AreEnds t s.operations.items (length t.states) x.states) (same_Some r.0 e (sym r.1 ∙ there)) r.2);
      within = λ x j link. (
          let h = is.stock_is.smaller.some x j link in
          omega (arith, items_within level.stocks.list.items j h.0 h.1, zip_long fit level.stocks.list.items level.ends.items is.level_is.ends));
    }

pub all_next : (t : TypeTable) (level : Level) (list : List Stock) → IsLevel t level → AreStocks (length t.operations) level.stocks.list.items list → All (IsNext t level) list
all_next t level list is are k d l = record { level_is = is; stock_is = are k (get_or list k d) (slice_get-get_or list k d l) }

pub no_level_is : (t : TypeTable) (level : Level) → level.stocks.list.items ≡ [] → level.starts.items ≡ [] → level.ends.items ≡ [] → IsLevel t level
no_level_is t level stocks starts ends = record {
  starts = zip_none _ level.stocks.list.items level.starts.items stocks starts;
  ends = zip_none _ level.stocks.list.items level.ends.items stocks ends;
}

-- the start states of the stock to which a link leads
pub starts_at : (t : TypeTable) (level : Level) (stock : Stock) → IsNext t level stock → (x j : ℕ) → slice_index_or stock.less x None ≡ Some j
    → (rest : List ℕ) × HaveSame stock.operations.items (x ∷ rest) × AreStarts t rest (get_or level.starts.items j 0)
starts_at t level stock is x j link =
    let fit : Stock → ℕ → Type 0 = λ stock starts. AreStarts t stock.operations.items starts in
    let h = is.stock_is.smaller.some x j link in
    let s = stock_at level.stocks.list.items j h.0 h.1 in
    let starts = zip_at fit level.stocks.list.items level.starts.items is.level_is.starts j s.0 s.1 in (
      h.0,
      h.2,
      subst (λ (items : List ℕ). AreStarts t items (get_or level.starts.items j 0)) s.2
          (subst (λ (set : ℕ). AreStarts t s.0.operations.items set) (sym (get_or_from_slice_get level.starts.items j starts.0 0 starts.1)) starts.2),
    )

-- a stock of three operations or more tells from one of them with one operation less too
pub less_has : (t : TypeTable) (level : Level) (stock : Stock) (set : ℕ) → IsNext t level stock → HasLessStarts level stock set → 3 ≤ length stock.operations.items → (q : ℕ) → q < length t.states
    → Tells t q stock.operations.items → IsBitSet set q
less_has t level stock set is has l q below tells =
    let items = stock.operations.items in
    let less = less_tells t q items l tells in
    let x = less.0 in
    elim (by_option (slice_index_or stock.less x None)) [
      | inl e ↦ absurd (omega (arith, same_has x items less.1 less.2, is.stock_is.smaller.none x e))
      | inr j ↦ (
          let at = starts_at t level stock is x j.0 j.1 in
          let same : HaveSame less.1 at.0 = λ o. same_rest x x items less.1 at.0 refl less.2 at.1 o in
          has x j.0 q j.1 ((at.2 q).1 (below, tells_same t q less.1 at.0 same less.4))
          )
    ]

-- ---- whether some stock tells, from what was found for each

-- the stock at the place tells from the state
tells_at : (t : TypeTable) (n : ℕ) (s : Search) (i q : ℕ) → IsSearch t n s → i < length s.starts.items → IsBitSet (get_or s.starts.items i 0) q → (q < length t.states) × TellsFrom t n q
tells_at t n s i q is l b =
    let starts = get_or s.starts.items i 0 in
    let fit : Stock → ℕ → Type 0 = λ stock starts. AreStarts t stock.operations.items starts in
    let here = zip_back fit s.stocks.list.items s.starts.items is.starts i starts (slice_get-get_or s.starts.items i 0 l) in
    let tells = (here.2 q).0 b in
    (tells.0, (here.0.operations.items, (is.stocks.stocks i here.0 here.1).known, is.stocks.long i here.0.operations.items (items_of s.stocks.list.items i here.0 here.1), tells.1))

-- at some place stands a stock that tells from the state
place_of : (t : TypeTable) (n : ℕ) (s : Search) (q : ℕ) → IsSearch t n s → q < length t.states → TellsFrom t n q
    → (i : ℕ) × (i < length s.starts.items) × IsBitSet (get_or s.starts.items i 0) q
place_of t n s q is l found =
    let fit : Stock → ℕ → Type 0 = λ stock starts. AreStarts t stock.operations.items starts in
    let here = is.stocks.all found.0 found.1 found.2 in
    let stock = stock_at s.stocks.list.items here.0 here.1.0 here.1.1 in
    let starts = zip_at fit s.stocks.list.items s.starts.items is.starts here.0 stock.0 stock.1 in
    let same : HaveSame found.0 stock.0.operations.items = λ o. sym (here.1.2 o) ∙ ap (times o) (sym stock.2) in
    let bit = (starts.2 q).1 (l, tells_same t q found.0 stock.0.operations.items same found.3) in
    (here.0, slice_get_within s.starts.items here.0 starts.0 starts.1, subst (λ (x : ℕ). IsBitSet x q) (sym (get_or_from_slice_get s.starts.items here.0 starts.0 0 starts.1)) bit)

pub some_start : (t : TypeTable) (n : ℕ) (s : Search) (i : ℕ) → IsSearch t n s → i < length s.starts.items → get_or s.starts.items i 0 < 2 ^ 16 → get_or s.starts.items i 0 ≢ 0 → SomeTells t n
some_start t n s i is l small some =
    let q = some_bit (get_or s.starts.items i 0) small some in
    let tells = tells_at t n s i q.0 is l q.1 in
    (q.0, tells.0, tells.1)

pub none_starts : (t : TypeTable) (n : ℕ) (s : Search) → IsSearch t n s → ((i : ℕ) → i < length s.starts.items → get_or s.starts.items i 0 ≡ 0) → ¬ SomeTells t n
none_starts t n s is none h =
    let at = place_of t n s h.0 is h.1 h.2 in
    zero_has_none h.0 (subst (λ (x : ℕ). IsBitSet x h.0) (none at.0 at.1) at.2)

-- what is found where no larger stock tells
pub told_up_to : (t : TypeTable) (most n : ℕ) (greatest : Option ℕ) → n ≤ most → (2 ≤ n → (greatest ≡ Some n) × SomeTells t n) → (n ≤ 1 → greatest ≡ None)
    → ((m : ℕ) → n < m → m ≤ most → ¬ SomeTells t m) → IsGreatestTold t most greatest
told_up_to t most n greatest l found none above = elim (before_or_behind 1 n) [
  | inl two ↦ (let f = found (omega (arith, two)) in subst (IsGreatestTold t most) (sym f.0) (omega (arith, two), l, f.1, above))
  | inr few ↦ subst (IsGreatestTold t most) (sym (none few)) (λ m two u. above m (omega (arith, two, few)) u)
]
