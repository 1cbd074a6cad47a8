-- Operations that are joined with one another.
use Rattle.std.specs.Prelude.{◌≡◌, ℕ, List, IsBitSet, Bool, true}
use Rattle.cn_table.specs.TypeTable.{TypeTable}
use Rattle.cn_stocks.specs.Splits.{AreJoined}

-- the operation is joined with one of the set
abbrev pub IsJoinedWithSome : TypeTable → ℕ → List ℕ → ℕ → ℕ → Type 0
IsJoinedWithSome t start stock set g = (f : ℕ) × IsBitSet set f × AreJoined t start stock f g

-- each choice of operations that has the first one and is closed under being joined has those of
-- the set
abbrev pub AreReached : TypeTable → ℕ → List ℕ → ℕ → ℕ → Type 0
AreReached t start stock first set =
    (chosen : ℕ → Bool) → chosen first ≡ true
    → ((f g : ℕ) → chosen f ≡ true → AreJoined t start stock f g → chosen g ≡ true)
    → (g : ℕ) → IsBitSet set g → chosen g ≡ true
