-- Where stocks stand, and what is read of their sets.
use Rattle.std.proofs.Common.{Global, ◌≡◌, ℕ, zero, suc, ◌-◌, ◌<◌, ◌≤◌, List, ◌∷◌, length, get_or, refl, sym, ap, ◌∙◌, subst, arith, Some, None}
use Rattle.std.specs.Prelude.{slice_get, slice_index_or}
use Rattle.std.specs.declared.vec.Vec.{Vec}
use Rattle.std.proofs.lemmas.Option.{none-some, same_Some, slice_get_read, slice_get_within}
use Rattle.cn_stocks.specs.declared.stocks.Stock.{Stock}
use Rattle.cn_stocks.specs.declared.stocks.Stocks.{Stocks}
use Rattle.cn_stocks.specs.Stocks.{items_at}
use Rattle.cn_stocks.specs.Words.{HaveSame, times}
use Rattle.cn_stocks.proofs.StockLemmas.{items_of, items_within, no_less, read_stock, same_items, stock_at}
use Rattle.cn_stocks.specs.Each.{EachAt}
use Rattle.cn_collisions.specs.Levels.{AreLevels}
use Rattle.cn_collisions.specs.Stands.{StandsIn}
use Rattle.cn_stocks.proofs.EachLemmas.{each_read}
use Rattle.cn_collisions.proofs.LevelLemmas.{some_all, some_at}

-- what is read at a place is what stands there
pub read_is : {X : Type 0} (xs : List X) (i : ℕ) (x y : X) → slice_get xs i ≡ Some y → x ≡ get_or xs i x → x ≡ y
read_is xs i x y h e = same_Some x y (sym (slice_get_read xs (length xs) i x refl (slice_get_within xs i y h) e) ∙ h)

-- the level that is read
pub level_read : (levels : List Stocks) (size : ℕ) (s x : Stocks) → slice_get levels size ≡ Some s → x ≡ get_or levels size x → x ≡ s
level_read levels size s x h e = same_Some x s (sym (slice_get_read levels (length levels) size x refl (slice_get_within levels size s h) e) ∙ h)

module _ (operations count : ℕ) (levels : List Stocks) (are : AreLevels operations count levels) where
  -- the stock that is read
  pub stock_read : (size place : ℕ) (stock : List ℕ) (x : Stocks) (st : Stock) → StandsIn levels size place stock → x ≡ get_or levels size x → st ≡ get_or x.list.items place st
      → (slice_get x.list.items place ≡ Some st) × (st.operations.items ≡ stock)
  stock_read size place stock x st stands e f =
      let same = level_read levels size stands.0 x stands.1 e in
      let here = subst (λ (s : Stocks). items_at s.list.items place ≡ Some stock) (sym same) stands.2 in
      let at = read_stock x.list.items place st (items_within x.list.items place stock here) f in
      (at, same_items x.list.items place st.operations.items stock (items_of x.list.items place st at) here)

  pub stock_within : (size place : ℕ) (stock : List ℕ) (x : Stocks) → StandsIn levels size place stock → x ≡ get_or levels size x → place < length x.list.items
  stock_within size place stock x stands e =
      let same = level_read levels size stands.0 x stands.1 e in
      subst (λ (s : Stocks). place < length s.list.items) (sym same) (items_within stands.0.list.items place stock stands.2)

  pub stands_long : (size place : ℕ) (stock : List ℕ) → StandsIn levels size place stock → length stock ≡ size
  stands_long size place stock stands = (some_all operations count size levels stands.0 are stands.1).1.long place stock stands.2

  pub less_stands : (size place : ℕ) (stock : List ℕ) (x : Stocks) (st : Stock) → StandsIn levels size place stock → x ≡ get_or levels size x → st ≡ get_or x.list.items place st
      → (o j : ℕ) → slice_index_or st.less o None ≡ Some j
      → (1 ≤ size) × ((rest : List ℕ) × HaveSame stock (o ∷ rest) × StandsIn levels (size - 1) j rest)
  less_stands size place stock x st stands e f o j h =
      let same = level_read levels size stands.0 x stands.1 e in
      let read = stock_read size place stock x st stands e f in
      by_size size (subst (λ (s : Stocks). slice_get levels size ≡ Some s) (sym same) stands.1) read
    where
      by_size : (size : ℕ) → slice_get levels size ≡ Some x → (slice_get x.list.items place ≡ Some st) × (st.operations.items ≡ stock)
          → (1 ≤ size) × ((rest : List ℕ) × HaveSame stock (o ∷ rest) × StandsIn levels (size - 1) j rest)
      by_size zero at read = (let less = ((are.first x at).stocks place st read.0).smaller.some o j h in absurd (none-some less.0 less.1))
      by_size (suc m) at read =
          let b = some_at levels m (let l = slice_get_within levels (suc m) x at in omega (arith, l)) in
          let less = ((are.next m b.0 x b.1 at).stocks place st read.0).smaller.some o j h in
          let before : m ≡ suc m - 1 = omega arith in (
            omega arith,
            (less.0, subst (λ (items : List ℕ). HaveSame items (o ∷ less.0)) read.1 less.2, subst (λ (k : ℕ). StandsIn levels k j less.0) before (b.0, b.1, less.1)),
          )

  -- an operation that stands in the stock has a link
  pub has_link : (size place : ℕ) (stock : List ℕ) (x : Stocks) (st : Stock) → StandsIn levels size place stock → x ≡ get_or levels size x → st ≡ get_or x.list.items place st
      → (o : ℕ) → 1 ≤ times o stock → ((j : ℕ) → slice_index_or st.less o None ≡ Some j → ⊥) → ⊥
  has_link size place stock x st stands e f o l none =
      let same = level_read levels size stands.0 x stands.1 e in
      let read = stock_read size place stock x st stands e f in
      let all = some_all operations count size levels x are (subst (λ (s : Stocks). slice_get levels size ≡ Some s) (sym same) stands.1) in
      let zero : times o st.operations.items ≡ 0 = no_less all.0 st.operations.items st.less (all.1.stocks place st read.0).smaller o none in
      let is : times o st.operations.items ≡ times o stock = ap (times o) read.1 in
      omega (arith, zero, is, l)

-- ---- the sets of a stock

module _ {E : Type 0} (Fit : ℕ → List ℕ → E → Type 0) (levels : List Stocks) (sets : List (Vec E Global)) (count : ℕ)
    (each : EachAt (λ m e. (s : Stocks) → slice_get levels m ≡ Some s
    → EachAt (λ i x. (st : Stock) → slice_get s.list.items i ≡ Some st → Fit m st.operations.items x) (length s.list.items) e.items) count sets)
    (size place : ℕ) (stock : List ℕ) (stands : StandsIn levels size place stock) (few : size < count) (row : Vec E Global) (read : row ≡ get_or sets size row) where
  pub row_long : length row.items ≡ length stands.0.list.items
  row_long = (each_read _ sets count size row each few read stands.0 stands.1).0

  pub row_within : place < length row.items
  row_within = omega (arith, row_long, items_within stands.0.list.items place stock stands.2)

  pub row_fits : (x : E) → x ≡ get_or row.items place x → Fit size stock x
  row_fits x e =
      let all = each_read _ sets count size row each few read stands.0 stands.1 in
      let st = stock_at stands.0.list.items place stock stands.2 in
      subst (λ (items : List ℕ). Fit size items x) st.2 (each_read _ row.items (length stands.0.list.items) place x all (items_within stands.0.list.items place stock stands.2) e st.0 st.1)
