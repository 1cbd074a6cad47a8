-- The conditions on a certificate of a table.
use Rattle.std.specs.Prelude.{◌≡◌, ℕ, ◌≤◌, Option, Some, None, IfSome}
use Rattle.cn_table.specs.TypeTable.{TypeTable}
use Rattle.cn_choice.specs.RawChoices.{IsRawChoice}
use Rattle.cn_choice.specs.Canonical.{Choice, raw_choice_of}
use Rattle.cn_choice.specs.Collisions.{Collision, IsCollision}
use Rattle.cn_check.specs.Versions.{greatest_limit}

-- the limit is from 2 to the greatest limit of the version; a number is from 2 to the limit
pub record IsInRange (version limit : ℕ) (number : Option ℕ) : Type 0 where
  pub some : 2 ≤ limit
  pub few : limit ≤ greatest_limit version
  pub number_in_limit : IfSome number (λ n. (2 ≤ n) × (n ≤ limit))

-- a certificate with a number has a choice of the table for that many processes, one without a
-- number has none
abbrev pub HasWitnessFor : TypeTable → Option ℕ → Option Choice → Type 0
HasWitnessFor t None None = Unit {0}
HasWitnessFor t None (Some w) = ⊥
HasWitnessFor t (Some n) None = ⊥
HasWitnessFor t (Some n) (Some w) = IsRawChoice t n (raw_choice_of w)

-- the entry's process and lists are a collision of its choice
abbrev pub HoldsCollision : TypeTable → Collision → Type 0
HoldsCollision t entry =
    IsCollision t (raw_choice_of entry.choice) entry.process entry.alpha entry.beta

-- the entry refutes the choice: it is of this choice, and holds a collision of it
abbrev pub Refutes : TypeTable → Choice → Collision → Type 0
Refutes t choice entry = (entry.choice ≡ choice) × HoldsCollision t entry
