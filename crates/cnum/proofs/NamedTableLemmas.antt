-- Several tables, each with its name.
use Rattle.std.proofs.Common.{◌≡◌, ℕ, ◌+◌, ◌<◌, List, [], ◌∷◌, ◌++◌, length, get_or, take, Option, ap, ap₂, sym, ◌∙◌}
use Rattle.std.specs.Borrow.{Bor}
use Rattle.std.proofs.lemmas.List.{map-append, map_more}
use Rattle.std.proofs.lemmas.List.Elements.{All-push}
use Rattle.cn_words.specs.declared.commands.TextSource.{TextSource}
use Rattle.cn_words.specs.declared.commands.TextSource.TheVariants as source
use Rattle.cn_io.specs.Streams.Reading.{IsUnread}
use Rattle.cn_app.specs.declared.commands.of_several_tables.NamedTable.{NamedTable}
use Rattle.cn_io.specs.declared.streams.text.Text.{Text}
use Rattle.cnum.specs.NamedTables.{AreNamed, bytes_of, name_of}
use Rattle.cnum.specs.Texts.{IsReaderOf, IsTextFrom, IsTextOf, left_of}
use Rattle.cnum.specs.declared.lazy_file.LazyFile.{LazyFile}
use Rattle.cnum.specs.declared.text_reader.TextReader.{TextReader}
use Rattle.cnum.specs.declared.text_reader.TextReader.TheVariants.{File, Standard}

-- the table of the next source stands behind those of the sources before
pub one_more : {R : Type 0} (left : R → Option (List ℕ)) (bytes : TextSource → Option (List ℕ)) (sources : List TextSource)
    (tables : List (NamedTable R)) (i : ℕ) (none : TextSource) (table : NamedTable R) → i < length sources
    → AreNamed left bytes (take i sources) tables → table.name.now ≡ name_of (get_or sources i none)
    → IsTextOf left (bytes (get_or sources i none)) table.text → AreNamed left bytes (take (i + 1) sources) (tables ++ table ∷ [])
one_more left bytes sources tables i none table less named name text = record {
  names = map-append (λ t. t.name.now) tables (table ∷ []) ∙ ap₂ (λ names last. names ++ last ∷ []) named.names name ∙ sym (map_more name_of sources i none less);
  bytes_left = map-append (λ t. left t.text.reader) tables (table ∷ []) ∙ ap₂ (λ all last. all ++ last ∷ []) named.bytes_left text.bytes
      ∙ sym (map_more bytes sources i none less);
  unread = All-push (λ t. IsUnread t.text) tables table named.unread text.unread;
}

-- a reader of a file has the bytes of its name
file_bytes : {S D F : Type 0} (remaining : S → Option (List ℕ)) (left : LazyFile D F → Option (List ℕ)) (files : List ℕ → Option (List ℕ)) (stdin : S)
    (path : Bor (List ℕ)) (reader : TextReader S D F) → IsReaderOf left files stdin (source.File path) reader → left_of remaining left reader ≡ files path.now
file_bytes remaining left files stdin path (Standard other) bad = absurd bad
file_bytes remaining left files stdin path (File file) known = known

-- a text of a source has the bytes of the source
pub text_of_source : {S D F : Type 0} (remaining : S → Option (List ℕ)) (left : LazyFile D F → Option (List ℕ)) (files : List ℕ → Option (List ℕ)) (stdin : S)
    (from : TextSource) (text : Text (TextReader S D F)) → IsTextFrom left files stdin from text
    → IsTextOf (left_of remaining left) (bytes_of (remaining stdin) files from) text
text_of_source remaining left files stdin source.StandardInput text is = record { unread = is.unread; bytes = ap (left_of remaining left) is.reader }
text_of_source remaining left files stdin (source.File path) text is = record { unread = is.unread; bytes = file_bytes remaining left files stdin path text.reader is.reader }
