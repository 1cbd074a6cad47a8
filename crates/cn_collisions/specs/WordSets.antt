-- The sets of a stock: what words of each number of operations within it lead to.
use Rattle.std.specs.Prelude.{◌≡◌, ℕ, ◌+◌, ◌-◌, ◌<◌, ◌≤◌, List, ◌∷◌, length, slice_get, Some}
use Rattle.std.specs.declared.alloc.Global.{Global}
use Rattle.std.specs.declared.vec.Vec.{Vec}
use Rattle.cn_table.specs.TypeTable.{TypeTable}
use Rattle.cn_table.specs.declared.limits.TheConstants.{MOST_STATES}
use Rattle.cn_stocks.specs.declared.pair_sets.PairSet.{PairSet}
use Rattle.cn_stocks.specs.declared.stocks.Stock.{Stock}
use Rattle.cn_stocks.specs.Stocks.{IsStock}
use Rattle.cn_stocks.specs.Words.{HaveSame}
use Rattle.cn_collisions.specs.declared.setting.Setting.{Setting}
use Rattle.cn_collisions.specs.declared.word_sets.Ends.{Ends}
use Rattle.cn_collisions.specs.declared.word_sets.Shown.{Shown}
use Rattle.cn_stocks.specs.Each.{EachAt}
use Rattle.cn_collisions.specs.Exact.{AreEndsAfter, AreEndsUpTo, ArePairsAfter, ArePairsUpTo}

-- the states in which words end, for each number of operations up to m
abbrev pub AreEndRows : TypeTable → ℕ → List ℕ → List (List ℕ) → Type 0
AreEndRows t m stock rows =
    EachAt (λ k row. AreEndsAfter t stock k (length t.states) row) (m + 1) rows

-- the states in which words within the stock, which has m operations, end
abbrev pub IsEnds : TypeTable → ℕ → List ℕ → Ends → Type 0
IsEnds t m stock ends =
    AreEndRows t m stock ends.by_count.items × AreEndsUpTo t stock m (length t.states) ends.all

-- the pairs that words of k operations show the asked one, for each start state
abbrev pub AreSets : TypeTable → List ℕ → ℕ → ℕ → List PairSet → Type 0
AreSets t stock k o sets =
    EachAt (λ start set. ArePairsAfter t start stock o k set) (length t.states) sets

-- these sets for each asked operation
abbrev pub AreShownRows : TypeTable → List ℕ → ℕ → List (Vec PairSet Global) → Type 0
AreShownRows t stock k rows =
    EachAt (λ o sets. AreSets t stock k o sets.items) (length t.operations) rows

-- these rows for each number of operations up to m
abbrev pub AreAllRows : TypeTable → ℕ → List ℕ → List (Vec (Vec PairSet Global) Global) → Type 0
AreAllRows t m stock by_count =
    EachAt (λ k rows. AreShownRows t stock k rows.items) (m + 1) by_count

-- the pairs that words of at most m operations show the asked one, for each start state
abbrev pub AreUnions : TypeTable → ℕ → List ℕ → ℕ → List PairSet → Type 0
AreUnions t m stock o sets =
    EachAt (λ start set. ArePairsUpTo t start stock o m set) (length t.states) sets

-- these sets for each asked operation
abbrev pub AreUnionRows : TypeTable → ℕ → List ℕ → List (Vec PairSet Global) → Type 0
AreUnionRows t m stock rows =
    EachAt (λ o sets. AreUnions t m stock o sets.items) (length t.operations) rows

-- the pairs that words within the stock, which has m operations, show each operation
abbrev pub IsShown : TypeTable → ℕ → List ℕ → Shown → Type 0
IsShown t m stock shown =
    AreAllRows t m stock shown.by_count.items × AreUnionRows t m stock shown.all.items

-- there are ends of words of so many operations from the state
pub record HasEndsAt (ends : Ends) (k start : ℕ) : Type 0 where
  pub t : TypeTable
  pub m : ℕ
  pub stock : List ℕ
  pub ends_are : IsEnds t m stock ends
  pub count : k ≤ m
  pub small : start < MOST_STATES

-- there are pairs that words of so many operations show o from the state
pub record HasShownAt (shown : Shown) (k o start : ℕ) : Type 0 where
  pub t : TypeTable
  pub m : ℕ
  pub stock : List ℕ
  pub shown_are : IsShown t m stock shown
  pub count : k ≤ m
  pub asked : o < length t.operations
  pub known : start < length t.states

-- the sets of each stock of the list, which have m operations each
abbrev pub AreSetsOf : {E : Type 0} → (ℕ → List ℕ → E → Type 0) → ℕ → List Stock → List E → Type 0
AreSetsOf Is m stocks sets =
    EachAt (λ i e. (s : Stock) → slice_get stocks i ≡ Some s → Is m s.operations.items e)
    (length stocks) sets

-- a stock beside those of one operation less, and the sets of these
pub record IsSetting {E : Type 0} (Is : ℕ → List ℕ → E → Type 0) (s : Setting)
    (sets : List E) : Type 0 where
  pub before : List Stock
  pub stock_is : IsStock (length s.table.now.operations) before s.stock.now
  pub long : length s.stock.now.operations.items ≡ s.size
  pub sets_are : AreSetsOf Is (s.size - 1) before sets

-- the same for their ends, and for their pairs
abbrev pub IsEndsSetting : Setting → Type 0
IsEndsSetting s = IsSetting (IsEnds s.table.now) s s.ends.now

abbrev pub IsShownSetting : Setting → Type 0
IsShownSetting s = IsSetting (IsShown s.table.now) s s.shown.now

-- the sets of what is left of the stock without one x
abbrev pub AreLess : {E : Type 0} → (ℕ → List ℕ → E → Type 0) → Setting → ℕ → E → Type 0
AreLess Is s x sets = (1 ≤ s.size)
    × ((rest : List ℕ) × HaveSame s.stock.now.operations.items (x ∷ rest)
    × Is (s.size - 1) rest sets)
