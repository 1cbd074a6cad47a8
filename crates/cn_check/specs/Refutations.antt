-- How far the check has gone through the choices.
use Rattle.std.specs.Prelude.{◌≡◌, ℕ, ◌<◌, ◌==◌, ◌||◌, ◌&&◌, Bool, List, ◌++◌, length, drop, Some}
use Rattle.std.specs.Prelude.{IsSomeAnd, slice_get}
use Rattle.std.specs.List.{filter}
use Rattle.cn_table.specs.TypeTable.{TypeTable}
use Rattle.cn_choice.specs.Canonical.{Choice}
use Rattle.cn_choice.specs.Collisions.{Collision}
use Rattle.cn_choice.specs.Live.{all_move}
use Rattle.cn_check.specs.Conditions.{HoldsCollision}
use Rattle.cn_check.specs.declared.fault.CheckFault.{CheckFault}
use Rattle.cn_check.specs.declared.fault.CheckFault.TheVariants.{OtherType, BadNumber, WitnessShape}
use Rattle.cn_check.specs.declared.fault.CheckFault.TheVariants.{WitnessMeets, Unexpected, NotNext}
use Rattle.cn_check.specs.declared.fault.CheckFault.TheVariants.{NotACollision, TooFew}

-- the operations count in the version: in version 1 always, in version 2 if they all lead away from
-- the state
abbrev pub all_count : ℕ → TypeTable → ℕ → List ℕ → Bool
all_count version t state operations = version == 1 || all_move t state operations

-- the choices whose operations count
abbrev pub counting : ℕ → TypeTable → List Choice → List Choice
counting version t choices =
    filter (λ c. all_count version t c.state c.a && all_count version t c.state c.b) choices

-- from the place on the choices begin with these
abbrev pub ComeNext : List Choice → ℕ → List Choice → Type 0
ComeNext choices place next = (later : List Choice) × (drop place choices ≡ next ++ later)

-- if from the start on the choices are `all` and some later ones, then from the place on they are
-- `left` and the same later ones
abbrev pub HasComeTo : List Choice → ℕ → List Choice → ℕ → List Choice → Type 0
HasComeTo choices start all place left = (later : List Choice) → drop start choices ≡ all ++ later
    → drop place choices ≡ left ++ later

-- entry i is of choice i
abbrev pub IsOfChoice : List Choice → ℕ → Collision → Type 0
IsOfChoice choices i entry = slice_get choices i ≡ Some entry.choice

-- the first `place` choices are refuted by the entries in their places
abbrev pub AreRefuted : TypeTable → List Choice → List Collision → ℕ → Type 0
AreRefuted t choices entries place =
    (i : ℕ) → i < place
    → IsSomeAnd (slice_get entries i) (λ entry. IsOfChoice choices i entry × HoldsCollision t entry)

-- the first fault of the entries as a refutation of the choices
abbrev pub IsFirstEntryFault : TypeTable → List Choice → List Collision → CheckFault → Type 0
IsFirstEntryFault t choices entries (NotNext i) = AreRefuted t choices entries i
    × IsSomeAnd (slice_get entries i) (λ entry. ¬ IsOfChoice choices i entry)
IsFirstEntryFault t choices entries (NotACollision i) = AreRefuted t choices entries i
    × IsSomeAnd (slice_get entries i)
    (λ entry. IsOfChoice choices i entry × ¬ HoldsCollision t entry)
IsFirstEntryFault t choices entries TooFew =
    AreRefuted t choices entries (length entries) × (length entries < length choices)
IsFirstEntryFault t choices entries OtherType = ⊥
IsFirstEntryFault t choices entries BadNumber = ⊥
IsFirstEntryFault t choices entries WitnessShape = ⊥
IsFirstEntryFault t choices entries (WitnessMeets j) = ⊥
IsFirstEntryFault t choices entries Unexpected = ⊥
