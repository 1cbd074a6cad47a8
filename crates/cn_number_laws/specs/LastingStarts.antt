-- Start states from which some two operations last.
use Rattle.std.specs.Prelude.{◌≢◌, ℕ, ◌<◌, length}
use Rattle.cn_table.specs.TypeTable.{TypeTable}
use Rattle.cn_stocks.specs.Lasting.{HaveCommonState, Lasts}

-- some two operations of the type last from the start state
abbrev pub LastsFrom : TypeTable → ℕ → Type 0
LastsFrom t start = (many : ℕ) × (single : ℕ) × Lasts t start many single

-- no two operations of the type last from the start state
abbrev pub NoneLastFrom : TypeTable → ℕ → Type 0
NoneLastFrom t start =
    (many : ℕ) → many < length t.operations → (single : ℕ) → single < length t.operations
    → many ≢ single → HaveCommonState t start many single

-- some two operations of the type last from some state
abbrev pub SomeLast : TypeTable → Type 0
SomeLast t = (start : ℕ) × LastsFrom t start
