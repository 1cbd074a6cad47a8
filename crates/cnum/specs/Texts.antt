-- The bytes of the readers of the program, if they are known.
use Rattle.std.specs.Prelude.{◌≡◌, ℕ, List, [], Option, Some}
use Rattle.cn_words.specs.declared.commands.TextSource.{TextSource}
use Rattle.cn_words.specs.declared.commands.TextSource.TheVariants as source
use Rattle.cn_io.specs.Streams.Reading.{IsUnread}
use Rattle.cn_io.specs.declared.streams.text.Text.{Text}
use Rattle.cnum.specs.declared.lazy_file.LazyFile.{LazyFile}
use Rattle.cnum.specs.declared.lazy_file.Progress.{Progress}
use Rattle.cnum.specs.declared.lazy_file.Progress.TheVariants.{Ended, Open, Unopened}
use Rattle.cnum.specs.declared.text_reader.TextReader.{TextReader}
use Rattle.cnum.specs.declared.text_reader.TextReader.TheVariants.{File, Standard}

-- what a file has left, by how far it was read and by all its bytes
abbrev pub left_at : {F : Type 0} → (F → Option (List ℕ)) → Option (List ℕ)
    → Progress F → Option (List ℕ)
left_at remaining whole Unopened = whole
left_at remaining whole (Open file) = remaining file
left_at remaining whole Ended = Some []

-- what a file has left: before it is open, all bytes of the file of its name
abbrev pub left_in : {D F : Type 0} → (D → List ℕ → Option (List ℕ)) → (F → Option (List ℕ))
    → LazyFile D F → Option (List ℕ)
left_in contents remaining file =
    left_at remaining (contents file.disk.now file.path.now) file.progress

-- what the reader of a text has left, by what standard input and a file have left
abbrev pub left_of : {S D F : Type 0} → (S → Option (List ℕ)) → (LazyFile D F → Option (List ℕ))
    → TextReader S D F → Option (List ℕ)
left_of remaining left (Standard stdin) = remaining stdin
left_of remaining left (File file) = left file

-- the reader is that of a source: standard input itself, or a file with the bytes of its name
abbrev pub IsReaderOf : {S D F : Type 0} → (LazyFile D F → Option (List ℕ))
    → (List ℕ → Option (List ℕ)) → S → TextSource → TextReader S D F → Type 0
IsReaderOf left files stdin source.StandardInput reader = reader ≡ Standard stdin
IsReaderOf left files stdin (source.File path) (Standard other) = ⊥
IsReaderOf left files stdin (source.File path) (File file) = left file ≡ files path.now

-- nothing was read of the text, and its reader has these bytes
pub record IsTextOf {R : Type 0} (remaining : R → Option (List ℕ)) (known : Option (List ℕ))
    (text : Text R) : Type 0 where
  pub unread : IsUnread text
  pub bytes : remaining text.reader ≡ known

-- nothing was read of the text, and its reader is that of this source
pub record IsTextFrom {S D F : Type 0} (left : LazyFile D F → Option (List ℕ))
    (files : List ℕ → Option (List ℕ)) (stdin : S) (from : TextSource)
    (text : Text (TextReader S D F)) : Type 0 where
  pub unread : IsUnread text
  pub reader : IsReaderOf left files stdin from text.reader
