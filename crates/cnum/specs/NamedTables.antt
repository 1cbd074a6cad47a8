-- The tables that the command line names, and their classification.
use Rattle.std.specs.Prelude.{◌≡◌, codes, ℕ, List, map, Option, Result, Ok, Err}
use Rattle.cn_words.specs.declared.commands.TextSource.{TextSource}
use Rattle.cn_words.specs.declared.commands.TextSource.TheVariants.{File, StandardInput}
use Rattle.cn_app.specs.Commands.ClassifyEach.{AreClassifiedIn, AreUnread}
use Rattle.cn_io.specs.Streams.Writing.{IsSilent}
use Rattle.cn_app.specs.declared.commands.of_several_tables.NamedTable.{NamedTable}
use Rattle.cn_io.specs.declared.fault.AppFault.{AppFault}
use Rattle.cn_io.specs.declared.fault.AppFault.TheVariants.{OutOfMemory}
use Rattle.cn_app.specs.declared.reports.classify.AskedNumbers.{AskedNumbers}
use Rattle.cn_io.specs.declared.streams.output.Output.{Output}

-- the name of a table; a minus sign is that of standard input
abbrev pub name_of : TextSource → List ℕ
name_of StandardInput = codes "-"
name_of (File path) = path.now

-- the bytes of a table, by those of standard input and of each file, if these are known
abbrev pub bytes_of : Option (List ℕ) → (List ℕ → Option (List ℕ)) → TextSource → Option (List ℕ)
bytes_of stdin files StandardInput = stdin
bytes_of stdin files (File path) = files path.now

-- each table has the name and the bytes of its source, place by place, and none was read
pub record AreNamed {R : Type 0} (left : R → Option (List ℕ)) (bytes : TextSource → Option (List ℕ))
    (sources : List TextSource)
    (tables : List (NamedTable R)) : Type 0 where
  pub names : map (λ t. t.name.now) tables ≡ map name_of sources
  pub bytes_left : map (λ t. left t.text.reader) tables ≡ map bytes sources
  pub unread : AreUnread tables

-- the result of classifying the tables of these sources: they were classified in order, for the
-- numbers asked for and in their form, with this first fault; or memory ran out before, and nothing was written, told
-- or noted
abbrev pub ClassifiesSources : {R W D : Type 0} → (R → Option (List ℕ)) → (W → Option (List ℕ))
    → (D → Option (List ℕ) → AppFault → D → Type 0)
    → (D → List ℕ → List ℕ → D → Type 0) → (TextSource → Option (List ℕ)) → List TextSource
    → AskedNumbers → Output W → D → Output W → D
    → Result (Option AppFault) AppFault → Type 0
ClassifiesSources {R} left contents tells notes bytes sources asked u d v e (Ok first) =
    (tables : List (NamedTable R)) × (after : List (NamedTable R))
    × AreNamed left bytes sources tables
    × AreClassifiedIn asked.form left contents tells notes asked tables after u d first v e
ClassifiesSources left contents tells notes bytes sources asked u d v e (Err fault) =
    (fault ≡ OutOfMemory) × IsSilent u v × (e ≡ d)
