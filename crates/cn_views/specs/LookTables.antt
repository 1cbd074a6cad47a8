-- All silent operations of a type, and the states that they do not tell apart.
use Rattle.std.specs.Prelude.{◌≡◌, ◌↔◌, ℕ, ◌<◌, List, length, slice_index, IsBitSet}
use Rattle.cn_table.specs.TypeTable.{TypeTable}
use Rattle.cn_table.specs.declared.limits.TheConstants.{MOST_STATES}
use Rattle.cn_unread.specs.Collects.{LookAlike}
use Rattle.cn_views.specs.SilentOperations.{AreSilentOperations}
use Rattle.cn_views.specs.declared.looks.Looks.{Looks}

-- for each state the set of those in which each of the operations gets the same response; the bits
-- of a number are the members of a set
abbrev pub AreAlikeSets : TypeTable → List ℕ → List ℕ → Type 0
AreAlikeSets t looks sets = (p : ℕ) → p < length t.states → (q : ℕ)
    → IsBitSet (slice_index sets p) q ↔ ((q < length t.states) × LookAlike t looks p q)

-- the looks of the type: all its silent operations, and for each state those that look alike
pub record AreLooksOf (t : TypeTable) (looks : Looks) : Type 0 where
  pub silent : AreSilentOperations t looks.operations.items
  pub sets : AreAlikeSets t looks.operations.items looks.alike
  pub long : length looks.alike ≡ MOST_STATES
