-- What a read text says of its bytes, whether or not they were known before.
use Rattle.std.specs.Prelude.{ℕ, ◌≡◌, ◌⊎◌, ◌+◌, ◌<◌, ◌≤◌, List, length, Option, Some, Result, Ok}
use Rattle.std.specs.Prelude.{Err, MatchResult, []}
use Rattle.std.specs.Io.KnownBytes.{Consumes, IsAtEnd}
use Rattle.cn_io.specs.declared.fault.Source.{Source}
use Rattle.cn_io.specs.declared.fault.Source.TheVariants.{Table, Certificate, Object, Argument}
use Rattle.cn_io.specs.declared.fault.AppFault.{AppFault}
use Rattle.cn_io.specs.declared.fault.AppFault.TheVariants.{OutOfMemory, Read, TooLong}
use Rattle.cn_io.specs.declared.limits.TheConstants.{MOST_ARGUMENT_BYTES, MOST_CERTIFICATE_BYTES}
use Rattle.cn_io.specs.declared.limits.TheConstants.{MOST_TABLE_BYTES}
use Rattle.cn_io.specs.declared.streams.progress.Progress.TheVariants.{Open, Done, Failed}
use Rattle.cn_io.specs.declared.streams.text.Text.{Text}

-- how many bytes a text may have
abbrev pub most_of : Source → ℕ
most_of Table = MOST_TABLE_BYTES
most_of Certificate = MOST_CERTIFICATE_BYTES
most_of Object = MOST_TABLE_BYTES
most_of (Argument argument) = MOST_ARGUMENT_BYTES

-- the reader has given nothing yet
pub record IsUnread {R : Type 0} (text : Text R) : Type 0 where
  pub empty : text.bytes.items ≡ []
  pub idle : text.progress ≡ Open

-- for every result: the bytes of the text are those that its reader gave, at most one too many; and
-- a reader that said that there is no more has none left
pub record HasRead {R : Type 0} (source : Source) (remaining : R → Option (List ℕ))
    (old new : Text R) : Type 0 where
  pub given : Consumes (remaining old.reader) (remaining new.reader) new.bytes.items
  pub few : length new.bytes.items ≤ most_of source + 1
  pub ended : new.progress ≡ Done → IsAtEnd (remaining new.reader)

-- the reader said that there is no more
abbrev pub IsWhole : {R : Type 0} → Source → Text R → Type 0
IsWhole source text = (text.progress ≡ Done) × (length text.bytes.items ≤ most_of source)

-- it is whole, or the reader gave too many bytes: then no further byte changes what the text spells
abbrev pub IsKnown : {R : Type 0} → Source → Text R → Type 0
IsKnown source text = IsWhole source text ⊎ (most_of source < length text.bytes.items)

-- reading fails before it is known what the text spells: memory ran out, or the reader failed
abbrev pub FailsReading : {R : Type 0} → Source → Text R → AppFault → Type 0
FailsReading source text e = (e ≡ OutOfMemory) ⊎ ((e ≡ Read source) × (text.progress ≡ Failed))

-- the result of reading a text: it is whole; or reading fails, or there are too many bytes
abbrev pub EndsText : {R : Type 0} → Source → Text R → Result Unit AppFault → Type 0
EndsText source text (Ok done) = IsWhole source text
EndsText source text (Err e) =
    FailsReading source text e ⊎ ((e ≡ TooLong source) × (most_of source < length text.bytes.items))

-- the result of reading a value: the text is whole and spells this value; or reading fails; or this
-- is the first fault of what the text spells
abbrev pub Gives : {R X : Type 0} → Source → (List ℕ → Result X AppFault) → Text R
    → Result X AppFault → Type 0
Gives source reads text (Ok x) = IsWhole source text × (reads text.bytes.items ≡ Ok x)
Gives source reads text (Err e) =
    FailsReading source text e ⊎ (IsKnown source text × (reads text.bytes.items ≡ Err e))

-- if the bytes of a reader are known, the result of reading is that of all these bytes, unless
-- reading fails
abbrev pub ReadsKnownBytes : {R X : Type 0} → Source → (List ℕ → Result X AppFault)
    → (R → Option (List ℕ)) → Type 0
ReadsKnownBytes {R} {X} source reads remaining =
    (old new : Text R) (known : List ℕ) (r : Result X AppFault) → remaining old.reader ≡ Some known
    → HasRead source remaining old new → Gives source reads new r
    → MatchResult r (λ x. reads known ≡ Ok x)
    (λ e. FailsReading source new e ⊎ (reads known ≡ Err e))
