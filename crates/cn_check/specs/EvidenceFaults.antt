-- The faults of the witness alone, and of the evidence alone.
use Rattle.std.specs.Prelude.{◌≡◌, ◌≢◌, ℕ, List, [], Option, Some, IsSomeAnd}
use Rattle.cn_table.specs.TypeTable.{TypeTable}
use Rattle.cn_choice.specs.FirstMeeting.{IsFirstMeeting}
use Rattle.cn_choice.specs.Canonical.{Choice, raw_choice_of}
use Rattle.cn_choice.specs.Collisions.{Collision}
use Rattle.cn_check.specs.Conditions.{HasWitnessFor}
use Rattle.cn_check.specs.Refutations.{IsFirstEntryFault}
use Rattle.cn_check.specs.Versions.{choices_to_refute_in}
use Rattle.cn_check.specs.declared.fault.CheckFault.{CheckFault}
use Rattle.cn_check.specs.declared.fault.CheckFault.TheVariants.{OtherType, BadNumber, WitnessShape}
use Rattle.cn_check.specs.declared.fault.CheckFault.TheVariants.{WitnessMeets, Unexpected, NotNext}
use Rattle.cn_check.specs.declared.fault.CheckFault.TheVariants.{NotACollision, TooFew}

-- the first fault of the number's witness
abbrev pub IsWitnessFault : TypeTable → Option ℕ → Option Choice → CheckFault → Type 0
IsWitnessFault t number witness WitnessShape = ¬ HasWitnessFor t number witness
IsWitnessFault t number witness (WitnessMeets j) =
    HasWitnessFor t number witness × IsSomeAnd witness (λ w. IsFirstMeeting t (raw_choice_of w) j)
IsWitnessFault t number witness OtherType = ⊥
IsWitnessFault t number witness BadNumber = ⊥
IsWitnessFault t number witness Unexpected = ⊥
IsWitnessFault t number witness (NotNext i) = ⊥
IsWitnessFault t number witness (NotACollision i) = ⊥
IsWitnessFault t number witness TooFew = ⊥

-- the first fault of the entries, for this version, this limit and this number
abbrev pub IsEvidenceFault : TypeTable → ℕ → ℕ → Option ℕ → List Collision → CheckFault → Type 0
IsEvidenceFault t version limit number entries Unexpected = (number ≡ Some limit) × (entries ≢ [])
IsEvidenceFault t version limit number entries (NotNext i) = (number ≢ Some limit)
    × IsFirstEntryFault t (choices_to_refute_in version t limit number) entries (NotNext i)
IsEvidenceFault t version limit number entries (NotACollision i) = (number ≢ Some limit)
    × IsFirstEntryFault t (choices_to_refute_in version t limit number) entries (NotACollision i)
IsEvidenceFault t version limit number entries TooFew = (number ≢ Some limit)
    × IsFirstEntryFault t (choices_to_refute_in version t limit number) entries TooFew
IsEvidenceFault t version limit number entries OtherType = ⊥
IsEvidenceFault t version limit number entries BadNumber = ⊥
IsEvidenceFault t version limit number entries WitnessShape = ⊥
IsEvidenceFault t version limit number entries (WitnessMeets j) = ⊥
