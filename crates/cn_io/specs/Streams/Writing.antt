-- What a written output says of its bytes, whether or not those of the writer are known.
use Rattle.std.specs.Prelude.{◌≡◌, ◌≢◌, [], ◌⊎◌, ◌++◌, List, ℕ, Option, Result, Ok, Err}
use Rattle.std.specs.Prelude.{string_bytes}
use Rattle.std.specs.Io.KnownBytes.{Appends}
use Rattle.cn_io.specs.declared.streams.output.Output.{Output}
use Rattle.cn_io.specs.declared.streams.progress.Progress.TheVariants.{Open, Done, Failed}
use Rattle.cn_io.specs.declared.fault.AppFault.{AppFault}
use Rattle.cn_io.specs.declared.fault.AppFault.TheVariants.{OutOfMemory, Write}
use Rattle.cn_io.specs.declared.report.Outcome.{Outcome}
use Rattle.cn_io.specs.declared.report.Report.{Report}

-- nothing was handed to the writer
pub record IsUnwritten {W : Type 0} (output : Output W) : Type 0 where
  pub empty : output.bytes.items ≡ []
  pub idle : output.progress ≡ Open

-- the writer has not failed
abbrev pub IsWritable : {W : Type 0} → Output W → Type 0
IsWritable output = output.progress ≢ Failed

-- nothing more was handed to the writer
pub record IsSilent {W : Type 0} (old new : Output W) : Type 0 where
  pub writer : new.writer ≡ old.writer
  pub bytes : new.bytes.items ≡ old.bytes.items
  pub progress : new.progress ≡ old.progress

-- the writer was given a text, and took all of it
pub record HasTaken {W : Type 0} (contents : W → Option (List ℕ)) (text : List ℕ)
    (old new : Output W) : Type 0 where
  pub bytes : new.bytes.items ≡ old.bytes.items ++ text
  pub taken : Appends (contents old.writer) (contents new.writer) text
  pub progress : new.progress ≡ Done

-- the writer was given a text, and failed
pub record HasFailed {W : Type 0} (text : List ℕ) (old new : Output W) : Type 0 where
  pub bytes : new.bytes.items ≡ old.bytes.items ++ text
  pub progress : new.progress ≡ Failed

-- the result of writing a report: its outcome once the writer took the text; or the writer failed,
-- or memory ran out before
abbrev pub HandsOver : {W : Type 0} → (W → Option (List ℕ)) → Report → Output W → Output W
    → Result Outcome AppFault → Type 0
HandsOver contents report old new (Ok outcome) =
    (outcome ≡ report.outcome) × HasTaken contents (string_bytes report.text) old new
HandsOver contents report old new (Err e) = ((e ≡ Write)
    × HasFailed (string_bytes report.text) old new) ⊎ ((e ≡ OutOfMemory) × IsSilent old new)

-- the result of a command with this work: the fault of the work, and the output is silent; or that
-- of writing the report
abbrev pub Reports : {W : Type 0} → (W → Option (List ℕ)) → (Result Report AppFault → Type 0)
    → Output W → Output W → Result Outcome AppFault → Type 0
Reports contents work old new r = ((e : AppFault) × work (Err e) × (r ≡ Err e) × IsSilent old new)
    ⊎ ((report : Report) × work (Ok report) × HandsOver contents report old new r)
