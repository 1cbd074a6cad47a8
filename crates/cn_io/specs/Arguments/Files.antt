-- Arguments whose text stands in a file.
use Rattle.std.specs.Prelude.{codes, ℕ, List, length, nat_lt, if◌then◌else◌, Result, Ok, Err}
use Rattle.std.specs.Prelude.{String, string_bytes, ◌≡◌, ◌⊎◌}
use Rattle.std.specs.Io.BufRead.{strip_last}
use Rattle.std.specs.Global.{Global}
use Rattle.std.specs.Str.{is_utf8}
use Rattle.cn_table.specs.Texts.{code_of}
use Rattle.cn_io.specs.Streams.Reading.{FailsReading, IsKnown, IsWhole}
use Rattle.cn_io.specs.declared.streams.text.Text.{Text}
use Rattle.cn_io.specs.declared.limits.TheConstants.{MOST_ARGUMENT_BYTES}
use Rattle.cn_io.specs.declared.fault.AppFault.{AppFault}
use Rattle.cn_io.specs.declared.fault.AppFault.TheVariants as fault
use Rattle.cn_io.specs.declared.fault.Argument.{Argument}
use Rattle.cn_io.specs.declared.fault.Source.TheVariants as source

-- without the line feed at the end, where there is one
abbrev pub without_line_feed : List ℕ → List ℕ
without_line_feed bytes = strip_last (code_of (codes "\n")) bytes

-- the text that stands in a file of these bytes, or its first fault: the bytes are too many, or
-- they are no text
abbrev pub argument_in : Argument → List ℕ → Result (List ℕ) AppFault
argument_in argument bytes =
    if nat_lt MOST_ARGUMENT_BYTES (length bytes) then Err (fault.TooLong (source.Argument argument))
    else (if is_utf8 (without_line_feed bytes) then Ok (without_line_feed bytes)
    else Err (fault.Argument argument))

-- reading the text of an argument ends so: the file is whole and holds this text; or reading fails;
-- or this is the first fault of what it holds
abbrev pub GivesArgument : {R : Type 0} → Argument → Text R
    → Result (String Global) AppFault → Type 0
GivesArgument argument text (Ok s) = IsWhole (source.Argument argument) text
    × (argument_in argument text.bytes.items ≡ Ok (string_bytes s))
GivesArgument argument text (Err e) = FailsReading (source.Argument argument) text e
    ⊎ (IsKnown (source.Argument argument) text × (argument_in argument text.bytes.items ≡ Err e))
