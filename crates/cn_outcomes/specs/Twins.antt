-- Twins: neighbours with the same operation in the same team, which are interchangeable.
use Rattle.std.specs.Prelude.{◌≡◌, ℕ, ◌+◌, ◌<◌, ◌≤◌, length, slice_get, slice_index, IsBitSet}
use Rattle.cn_choice.specs.RawChoices.{RawChoice}

-- processes p and p + 1 have the same operation, in the same team
pub record AreTwins (c : RawChoice) (p : ℕ) : Type 0 where
  pub inside : p + 1 < length c.operations
  pub operation : slice_index c.operations p ≡ slice_index c.operations (p + 1)
  pub team : slice_get c.marks p ≡ slice_get c.marks (p + 1)

-- each process of the set is a twin of the one before it
pub record AreTwinLinks (c : RawChoice) (links : ℕ) : Type 0 where
  pub twins : (p : ℕ) → IsBitSet links (p + 1) → AreTwins c p
  pub not_first : ¬ IsBitSet links 0

-- the subset contains, for each linked process in it, the process before it
abbrev pub IsPacked : ℕ → ℕ → Type 0
IsPacked links subset = (p : ℕ) → IsBitSet links (p + 1)
    → IsBitSet subset (p + 1) → IsBitSet subset p

-- a process of the subset that no linked process of it follows
abbrev pub IsMover : ℕ → ℕ → ℕ → Type 0
IsMover links subset p = IsBitSet subset p × ¬ (IsBitSet links (p + 1) × IsBitSet subset (p + 1))

-- the processes after process i up to process k are linked
abbrev pub IsRun : ℕ → ℕ → ℕ → Type 0
IsRun links i k = (p : ℕ) → i ≤ p → p < k → IsBitSet links (p + 1)
