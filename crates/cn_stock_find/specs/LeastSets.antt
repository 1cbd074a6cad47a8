-- The states that orders of two operations that last leave, as lists.
use Rattle.std.specs.Prelude.{◌≡◌, ◌↔◌, ℕ, ◌∷◌, ◌++◌, Contains, replicate}
use Rattle.cn_table.specs.TypeTable.{TypeTable}
use Rattle.cn_table.specs.Run.{state_after}
use Rattle.cn_stocks.specs.Lasting.{SingleFirst}
use Rattle.cn_stocks.specs.declared.lasting.search.Lasting.{Lasting}
use Rattle.cn_stock_cert.specs.LastingSets.{AreLastingSets, LastingSets}

-- the operation of the many leaves the state, any number of times
abbrev pub ManyAlone : TypeTable → ℕ → ℕ → ℕ → Type 0
ManyAlone t start many q = (k : ℕ) × (state_after t start (replicate k many) ≡ q)

-- so does the operation of the many at least once, then the single one, and then the other any
-- number of times
abbrev pub SingleBehind : TypeTable → ℕ → ℕ → ℕ → ℕ → Type 0
SingleBehind t start many single q = (i : ℕ) × (k : ℕ)
    × (state_after t start (many ∷ replicate i many ++ single ∷ replicate k many) ≡ q)

-- the lists have the states that the orders leave, and no others, and show that the operations last
pub record AreLeastSets (t : TypeTable) (l : Lasting) (s : LastingSets) : Type 0 where
  pub start : s.start ≡ l.start.0
  pub many : s.many ≡ l.many.0
  pub single : s.single ≡ l.single.0
  pub alone : (q : ℕ) → Contains s.alone q ↔ ManyAlone t s.start s.many q
  pub behind : (q : ℕ) → Contains s.behind q ↔ SingleBehind t s.start s.many s.single q
  pub first : (q : ℕ) → Contains s.first q ↔ SingleFirst t s.start s.many s.single q
  pub show : AreLastingSets t s
