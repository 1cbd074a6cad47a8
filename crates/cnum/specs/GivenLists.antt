-- The lists that the command line gives, as words or in files.
use Rattle.std.specs.Prelude.{◌≡◌, ◌++◌, ℕ, List, Option, Result, Ok, Err, String, codes}
use Rattle.std.specs.Global.{Global}
use Rattle.cn_io.specs.Arguments.Files.{GivesArgument}
use Rattle.cn_io.specs.Streams.Reading.{HasRead}
use Rattle.cn_io.specs.declared.arguments.list_text.ListText.{ListText}
use Rattle.cn_io.specs.declared.arguments.list_text.ListText.TheVariants.{File, Word}
use Rattle.cn_io.specs.declared.fault.AppFault.{AppFault}
use Rattle.cn_io.specs.declared.fault.Argument.{Argument}
use Rattle.cn_io.specs.declared.fault.Source.TheVariants as from_source
use Rattle.cn_io.specs.declared.streams.text.Text.{Text}
use Rattle.cnum.specs.Texts.{IsTextOf}

-- an argument was read from a text with these bytes, with this result
pub record IsRead {L : Type 0} (left : L → Option (List ℕ)) (known : Option (List ℕ))
    (argument : Argument) (r : Result (String Global) AppFault) : Type 0 where
  pub before : Text L
  pub after : Text L
  pub opened : IsTextOf left known before
  pub read : HasRead (from_source.Argument argument) left before after
  pub gives : GivesArgument argument after r

-- a word with an @ at its front names a file
abbrev pub NamesFile : List ℕ → List ℕ → Type 0
NamesFile word path = word ≡ codes "@" ++ path

-- the result of reading the list that a word gives: the word itself, if it names no file; else the
-- file of this name gives its text, or has a fault
abbrev pub GivesList : {L : Type 0} → (L → Option (List ℕ)) → (List ℕ → Option (List ℕ))
    → List ℕ → Argument → Result ListText AppFault → Type 0
GivesList left files word argument (Ok (Word list)) =
    (list.now ≡ word) × ((path : List ℕ) → ¬ NamesFile word path)
GivesList left files word argument (Ok (File held)) =
    (path : List ℕ) × NamesFile word path × IsRead left (files path) argument (Ok held)
GivesList left files word argument (Err e) =
    (path : List ℕ) × NamesFile word path × IsRead left (files path) argument (Err e)
