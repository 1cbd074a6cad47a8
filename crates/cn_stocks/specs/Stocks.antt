-- Stocks of one number of operations, each with the places of those that have one operation less.
use Rattle.std.specs.Prelude.{◌≡◌, ℕ, ◌≤◌, ◌<◌, List, [], ◌∷◌, ◌++◌, length, slice_get, slice_index}
use Rattle.std.specs.Prelude.{slice_index_or, Option, Some, None, option_map}
use Rattle.cn_stocks.specs.declared.stocks.Stock.{Stock}
use Rattle.cn_stocks.specs.declared.stocks.Stocks.{Stocks}
use Rattle.cn_stocks.specs.Words.{HaveSame, IsKnown, times}

-- the operations of the stock at the place, if there is one
abbrev pub items_at : List Stock → ℕ → Option (List ℕ)
items_at stocks place = option_map (λ s. s.operations.items) (slice_get stocks place)

-- no operation of the list is above x
abbrev pub UpTo : ℕ → List ℕ → Type 0
UpTo x list = (o : ℕ) → 1 ≤ times o list → o ≤ x

-- at the place stands what has one x less than the list
abbrev pub HasLess : List Stock → List ℕ → ℕ → ℕ → Type 0
HasLess before items x j =
    (rest : List ℕ) × (items_at before j ≡ Some rest) × HaveSame items (x ∷ rest)

-- for each operation of the list the place of the stock that has it once less
pub record AreSmallerStocks (before : List Stock) (items : List ℕ)
    (less : List (Option ℕ)) : Type 0 where
  pub some : (x j : ℕ) → slice_index_or less x None ≡ Some j → HasLess before items x j
  pub none : (x : ℕ) → slice_index_or less x None ≡ None → times x items ≡ 0

-- these are the places of its smaller stocks among some stocks
abbrev pub HasSmallerStocks : Stock → Type 0
HasSmallerStocks s = (before : List Stock) × AreSmallerStocks before s.operations.items s.less

-- the greatest operation of the list, or 0
pub record IsGreatest (items : List ℕ) (greatest : ℕ) : Type 0 where
  pub up_to : UpTo greatest items
  pub least : (x : ℕ) → UpTo x items → greatest ≤ x

-- a stock of so many operations, with the places of its smaller stocks, of one operation less
pub record IsStock (operations : ℕ) (before : List Stock) (s : Stock) : Type 0 where
  pub known : IsKnown operations s.operations.items
  pub greatest : IsGreatest s.operations.items s.greatest
  pub smaller : AreSmallerStocks before s.operations.items s.less

abbrev pub AreStocks : ℕ → List Stock → List Stock → Type 0
AreStocks operations before stocks = (i : ℕ) (s : Stock) → slice_get stocks i ≡ Some s
    → IsStock operations before s

-- each list of n of so many operations stands among the stocks, in some order
abbrev pub HaveAll : ℕ → ℕ → List Stock → Type 0
HaveAll operations n stocks =
    (list : List ℕ) → IsKnown operations list → length list ≡ n
    → (i : ℕ) × ((items : List ℕ) × (items_at stocks i ≡ Some items) × HaveSame items list)

-- the row has for each operation below the end that is not below one of the earlier stock's the
-- place of the stock with that operation more
abbrev pub HasChildren : List Stock → List Stock → ℕ → ℕ → List ℕ → Type 0
HasChildren before stocks place end row =
    (items : List ℕ) → items_at before place ≡ Some items → (x : ℕ) → x < end → UpTo x items
    → items_at stocks (slice_index row x) ≡ Some (items ++ x ∷ [])

-- the rows of the first earlier stocks
abbrev pub AreChildren : ℕ → List Stock → List Stock → List (List ℕ) → Type 0
AreChildren operations before stocks children =
    (i : ℕ) → i < length children
    → HasChildren before stocks i operations (slice_index_or children i [])

-- the stocks have n operations
abbrev pub AreLong : List Stock → ℕ → Type 0
AreLong stocks n = (i : ℕ) (items : List ℕ) → items_at stocks i ≡ Some items → length items ≡ n

-- all stocks of n of so many operations; those of one operation less are the ones before
pub record AreAll (operations n : ℕ) (before : List Stock) (s : Stocks) : Type 0 where
  pub stocks : AreStocks operations before s.list.items
  pub children : AreChildren operations before s.list.items s.children.items
  pub count : length s.children.items ≡ length before
  pub long : AreLong s.list.items n
  pub all : HaveAll operations n s.list.items

abbrev pub SomeAll : ℕ → ℕ → Stocks → Type 0
SomeAll operations n s = (before : List Stock) × AreAll operations n before s

-- the list goes on with stocks of n operations
abbrev pub GoesOn : List Stock → ℕ → List Stock → Type 0
GoesOn old n new = (more : List Stock) × (new ≡ old ++ more) × AreLong more n
