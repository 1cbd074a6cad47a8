-- What a command of one table reads and writes, by the words for its arguments.
use Rattle.std.specs.Prelude.{◌≡◌, ◌⊎◌, ℕ, Bool, true, false, List, None, Option, Some, Result, Ok, Err}
use Rattle.cn_words.specs.declared.commands.Command.{Command}
use Rattle.cn_words.specs.declared.commands.Command.TheVariants.{Find, FindUnread, Lint}
use Rattle.cn_words.specs.declared.commands.Command.TheVariants.{Draw, Check, CheckUnread}
use Rattle.cn_words.specs.declared.commands.Command.TheVariants.{CheckShortest, FindShortest}
use Rattle.cn_words.specs.declared.commands.Command.TheVariants.{CheckStocks, FindStocks}
use Rattle.cn_words.specs.declared.commands.Command.TheVariants.{Explain, Why, WhyRecoverable}
use Rattle.cn_words.specs.declared.commands.Command.TheVariants.{ExplainStocks, WhyStocks}
use Rattle.cn_words.specs.declared.commands.Command.TheVariants.{WhyUnread, Pairs, Show, Agree}
use Rattle.cn_words.specs.declared.commands.Command.TheVariants.{Changes}
use Rattle.cn_words.specs.declared.commands.Command.TheVariants.{Replay, Serve}
use Rattle.cn_words.specs.declared.commands.OpeningWords.{OpeningWords}
use Rattle.cn_words.specs.declared.commands.TextSource.{TextSource}
use Rattle.cn_words.specs.declared.plan_words.ObjectWords.{ObjectWords}
use Rattle.cn_words.specs.declared.plan_words.PlanWords.{PlanWords}
use Rattle.cn_words.specs.declared.plan_words.StyleWords.{StyleWords}
use Rattle.cn_form.specs.declared.answer_form.AnswerForm.{AnswerForm}
use Rattle.cn_hall.specs.declared.call.AlwaysOn.{AlwaysOn}
use Rattle.cn_hall.specs.declared.call.Go.TheVariants.{On}
use Rattle.cn_app.specs.Commands.Agree.{HasAgreeReport, SpellLists}
use Rattle.cn_app.specs.Commands.Changes.{HasChangesReport}
use Rattle.cn_app.specs.Commands.Check.{HasCheckReport}
use Rattle.cn_app.specs.Commands.CheckShortest.{HasCheckShortestReport}
use Rattle.cn_app.specs.Commands.CheckStocks.{HasCheckStocksReport}
use Rattle.cn_app.specs.Commands.CheckUnread.{HasCheckUnreadReport}
use Rattle.cn_app.specs.Commands.Draw.{HasDrawReport}
use Rattle.cn_app.specs.Commands.Explain.{HasExplainReport}
use Rattle.cn_app.specs.Commands.ExplainStocks.{HasExplainStocksReport}
use Rattle.cn_app.specs.Commands.Find.{HasFindReport}
use Rattle.cn_app.specs.Commands.FindShortest.{HasFindShortestReport}
use Rattle.cn_app.specs.Commands.FindStocks.{HasFindStocksReport}
use Rattle.cn_app.specs.Commands.FindUnread.{HasFindUnreadReport}
use Rattle.cn_app.specs.Commands.Lint.{HasLintReport}
use Rattle.cn_app.specs.Commands.Pairs.{HasPairsReport}
use Rattle.cn_app.specs.Commands.Replay.{HasReplayReport, SpellEvents}
use Rattle.cn_app.specs.Commands.Serve.{HasServeReport, SpellCalls}
use Rattle.cn_app.specs.Commands.Show.{HasShowObjectReport, HasShowReport}
use Rattle.cn_app.specs.Commands.Why.{HasWhyReport}
use Rattle.cn_app.specs.Commands.WhyRecoverable.{HasWhyRecoverableReport}
use Rattle.cn_app.specs.Commands.WhyStocks.{HasWhyStocksReport}
use Rattle.cn_app.specs.Commands.WhyUnread.{HasWhyUnreadReport}
use Rattle.cn_io.specs.Streams.Reading.{HasRead}
use Rattle.cn_io.specs.Streams.Writing.{IsSilent, Reports}
use Rattle.cn_io.specs.Texts.Checked.{AreUntouched, HaveReadBoth}
use Rattle.cn_io.specs.Texts.Openings.{HaveReadAll}
use Rattle.cn_io.specs.Texts.ServedObjects.{HaveReadTableAndObject, HaveReadWithObject}
use Rattle.cn_service.specs.Workers.{EachHasOneGate}
use Rattle.cn_io.specs.declared.arguments.list_text.ListText.{ListText}
use Rattle.cn_io.specs.declared.fault.AppFault.{AppFault}
use Rattle.cn_io.specs.declared.fault.Argument.{Argument}
use Rattle.cn_io.specs.declared.fault.Argument.TheVariants as argument
use Rattle.cn_io.specs.declared.fault.Source.TheVariants.{Table}
use Rattle.cn_io.specs.declared.readers.opening.OpeningArguments.{OpeningArguments}
use Rattle.cn_io.specs.declared.report.Outcome.{Outcome}
use Rattle.cn_io.specs.declared.report.Report.{Report}
use Rattle.cn_app.specs.declared.plan_style.PlanStyle.{PlanStyle}
use Rattle.cn_app.specs.declared.reports.agree.AskedRun.{AskedRun}
use Rattle.cn_app.specs.declared.reports.changes.AskedChanges.{AskedChanges}
use Rattle.cn_changes.specs.declared.kind.NumberKind.{NumberKind}
use Rattle.cn_changes.specs.declared.kind.NumberKind.TheVariants.{Consensus, Recoverable, WithoutReads}
use Rattle.cn_form.specs.declared.answer_form.DocumentForm.{DocumentForm}
use Rattle.cn_io.specs.declared.streams.output.Output.{Output}
use Rattle.cn_io.specs.declared.streams.text.Text.{Text}
use Rattle.cnum.specs.GivenLists.{GivesList}
use Rattle.cnum.specs.Styles.{GivesStyle}
use Rattle.cnum.specs.Texts.{IsTextFrom, IsTextOf, left_of}
use Rattle.cnum.specs.declared.lazy_file.LazyFile.{LazyFile}
use Rattle.cnum.specs.declared.text_reader.TextReader.{TextReader}

-- which number the flags ask for
abbrev pub asked_kind : Bool → Bool → NumberKind
asked_kind true without_read = Recoverable
asked_kind false true = WithoutReads
asked_kind false false = Consensus

-- what `changes` is asked
abbrev pub asked_changes : Bool → Bool → Bool → DocumentForm → AskedChanges
asked_changes recoverable without_read pairs form =
    record { kind = asked_kind recoverable without_read; pairs = pairs; form = form }

-- the source of the certificate, if a command reads one
abbrev pub certificate_of : Command → Option TextSource
certificate_of (Find limit) = None
certificate_of FindUnread = None
certificate_of (FindShortest processes) = None
certificate_of (FindStocks limit) = None
certificate_of (Lint form) = None
certificate_of Draw = None
certificate_of (Why limit all form) = None
certificate_of (WhyRecoverable all form) = None
certificate_of (WhyUnread all form) = None
certificate_of (WhyStocks limit all) = None
certificate_of (Pairs form) = None
certificate_of (Changes recoverable without_read pairs form) = None
certificate_of (Check certificate form) = Some certificate
certificate_of (CheckUnread certificate form) = Some certificate
certificate_of (CheckShortest certificate form) = Some certificate
certificate_of (CheckStocks certificate form) = Some certificate
certificate_of (Explain certificate all form) = Some certificate
certificate_of (ExplainStocks certificate all) = Some certificate
certificate_of (Show certificate words) = Some certificate
certificate_of (Agree certificate inputs schedule steps form) = Some certificate
certificate_of (Replay opening events form) = Some opening.certificate
certificate_of (Serve opening calls form) = Some opening.certificate

-- the arguments of a command that opens a log: this table and this certificate, the text of the
-- file that the word for the object names, and the words for the start and the number of slots
pub record HasArguments {R C L : Type 0} (left : L → Option (List ℕ))
    (files : List ℕ → Option (List ℕ)) (type : Text R) (evidence : Text C)
    (words : OpeningWords) (given : OpeningArguments R C L) : Type 0 where
  pub table : given.table ≡ type
  pub certificate : given.certificate ≡ evidence
  pub object : IsTextOf left (files words.object.now) given.object
  pub start : given.start ≡ words.start
  pub capacity : given.capacity ≡ words.capacity

-- the words for the style are read, and `next` takes it; or the prefix is refused, and nothing is
-- written
abbrev pub ReadsStyle : {W : Type 0} → StyleWords
    → (PlanStyle → Output W → Output W → Result Outcome AppFault → Type 0) → Output W → Output W
    → Result Outcome AppFault → Type 0
ReadsStyle words next u v r =
    ((e : AppFault) × GivesStyle words (Err e) × (r ≡ Err e) × IsSilent u v)
    ⊎ ((style : PlanStyle) × GivesStyle words (Ok style) × next style u v r)

-- in terms of the bytes that the readers of tables, of certificates and of files have left, those
-- that the writer holds, and those of the file of each name, if they are known
module _ {R C L W : Type 0} (remaining : R → Option (List ℕ)) (rest : C → Option (List ℕ)) (left : L
    → Option (List ℕ)) (contents : W → Option (List ℕ))
    (files : List ℕ → Option (List ℕ)) where
  -- a table was read, and its report was written
  pub record ReadsTable (table : Text R) (work : Text R → Result Report AppFault → Type 0)
      (u v : Output W) (r : Result Outcome AppFault) : Type 0 where
    pub after : Text R
    pub read : HasRead Table remaining table after
    pub reported : Reports contents (work after) u v r

  -- a table and a certificate were read, unless nothing may be read, and the report on both was
  -- written
  pub record ReadsBoth (table : Text R) (certificate : Text C) (may_read : Type 0)
      (work : Text R → Text C → Result Report AppFault → Type 0)
      (u v : Output W) (r : Result Outcome AppFault) : Type 0 where
    pub table_after : Text R
    pub certificate_after : Text C
    pub read : HaveReadBoth remaining rest table table_after certificate certificate_after
    pub order : AreUntouched table table_after certificate certificate_after ⊎ may_read
    pub reported : Reports contents (work table_after certificate_after) u v r

  -- a table, a certificate and the file of an object were read, and the report on them was written
  pub record ReadsWithObject (table : Text R) (certificate : Text C) (words : ObjectWords)
      (work : Text R → Text C → Text L → Result Report AppFault → Type 0)
      (u v : Output W) (r : Result Outcome AppFault) : Type 0 where
    pub table_after : Text R
    pub certificate_after : Text C
    pub object : Text L
    pub object_after : Text L
    pub opened : IsTextOf left (files words.object.now) object
    pub read : HaveReadWithObject remaining rest left table table_after certificate
        certificate_after object object_after
    pub reported : Reports contents (work table_after certificate_after object_after) u v r

  -- a table and the file of an object were read, and the report on them was written
  pub record ReadsTableAndObject (table : Text R) (words : ObjectWords)
      (work : Text R → Text L → Result Report AppFault → Type 0)
      (u v : Output W) (r : Result Outcome AppFault) : Type 0 where
    pub after : Text R
    pub object : Text L
    pub object_after : Text L
    pub opened : IsTextOf left (files words.object.now) object
    pub read : HaveReadTableAndObject remaining left table after object object_after
    pub reported : Reports contents (work after object_after) u v r

  -- the texts of an opening were read, unless nothing may be read, and the report on them was
  -- written
  pub record ReadsOpening (table : Text R) (certificate : Text C)
      (words : OpeningWords) (may_read : Type 0)
      (work : OpeningArguments R C L → Result Report AppFault
      → Type 0) (u v : Output W) (r : Result Outcome AppFault) : Type 0 where
    pub given : OpeningArguments R C L
    pub after : OpeningArguments R C L
    pub arguments : HasArguments left files table certificate words given
    pub read : HaveReadAll remaining rest left given after
    pub order : (after ≡ given) ⊎ may_read
    pub reported : Reports contents (work after) u v r

  -- the list that a word gives is read, and `next` takes it; or reading it has a fault, and nothing
  -- is written
  abbrev pub ReadsList : List ℕ → Argument
      → (ListText → Output W → Output W → Result Outcome AppFault → Type 0) → Output W → Output W
      → Result Outcome AppFault → Type 0
  ReadsList word argument next u v r =
      ((e : AppFault) × GivesList left files word argument (Err e) × (r ≡ Err e) × IsSilent u v)
      ⊎ ((list : ListText) × GivesList left files word argument (Ok list) × next list u v r)

  -- `agree` with a table, a certificate and these words: the lists are read first, from left to
  -- right
  abbrev pub RunsAgree : Text R → Text C → List ℕ → List ℕ → AskedRun → Output W
      → Output W
      → Result Outcome AppFault → Type 0
  RunsAgree table certificate inputs schedule asked u v r =
      ReadsList inputs argument.Inputs (λ xs. ReadsList schedule argument.Schedule
      (λ ps. ReadsBoth table certificate (SpellLists xs ps)
      (λ t c. HasAgreeReport t c xs ps asked))) u v r

  -- `replay` and `serve` with a table, a certificate and these words: the list is read first
  abbrev pub RunsReplay : Text R → Text C → OpeningWords → List ℕ → AnswerForm → Output W
      → Output W → Result Outcome AppFault → Type 0
  RunsReplay table certificate words events form u v r = ReadsList events argument.Events
      (λ list. ReadsOpening table certificate words (SpellEvents words.capacity.now list)
      (λ given. HasReplayReport given list form)) u v r

  -- the gate of each process lets every call go on
  abbrev pub RunsServe : Text R → Text C → OpeningWords → List ℕ → AnswerForm → Output W
      → Output W → Result Outcome AppFault → Type 0
  RunsServe table certificate words calls form u v r = ReadsList calls argument.Calls
      (λ list. ReadsOpening table certificate words (SpellCalls words.capacity.now list)
      (λ given. HasServeReport
      (EachHasOneGate {G = AlwaysOn} (λ _ _ _ _. Unit {0}) (λ _. On) (λ _ _. Unit {0})) given list form))
      u v r

  -- the plan of a certificate's witness was written, with an object if there are words for one
  abbrev pub WritesPlan : Text R → Text C → Option ObjectWords → PlanStyle → Output W → Output W
      → Result Outcome AppFault → Type 0
  WritesPlan table certificate None style u v r =
      ReadsBoth table certificate (Unit {0}) (λ t c. HasShowReport t c style) u v r
  WritesPlan table certificate (Some words) style u v r =
      ReadsWithObject table certificate words
      (λ t c o. HasShowObjectReport t c o words.start.now style) u v r

  -- `show` with a table, a certificate and these words: those for the style are read first
  abbrev pub RunsShow : Text R → Text C → PlanWords → Output W → Output W
      → Result Outcome AppFault → Type 0
  RunsShow table certificate words u v r =
      ReadsStyle words.style (WritesPlan table certificate words.object) u v r

-- in terms of the bytes that standard input and files have left, those that the writer holds, and
-- those of the file of each name, if they are known
module _ {S D F W : Type 0} (remaining : S → Option (List ℕ)) (left : LazyFile D F
    → Option (List ℕ)) (contents : W → Option (List ℕ))
    (files : List ℕ → Option (List ℕ)) where
  -- with the certificate of this source, of which nothing was read before
  abbrev pub With : S → TextSource → (Text (TextReader S D F) → Type 0) → Type 0
  With stdin source runs = (certificate : Text (TextReader S D F))
      × IsTextFrom left files stdin source certificate × runs certificate

  -- the result of a command of one table, with its arguments
  abbrev pub RunsOn : S → Text (TextReader S D F) → Command → Output W → Output W
      → Result Outcome AppFault → Type 0
  RunsOn stdin table (Find limit) u v r =
      ReadsTable (left_of remaining left) (left_of remaining left) left contents files table
      (λ t. HasFindReport t limit) u v r
  RunsOn stdin table FindUnread u v r =
      ReadsTable (left_of remaining left) (left_of remaining left) left contents files table
      (λ t. HasFindUnreadReport t) u v r
  RunsOn stdin table (FindShortest processes) u v r =
      ReadsTable (left_of remaining left) (left_of remaining left) left contents files table
      (λ t. HasFindShortestReport t processes) u v r
  RunsOn stdin table (FindStocks limit) u v r =
      ReadsTable (left_of remaining left) (left_of remaining left) left contents files table
      (λ t. HasFindStocksReport t limit) u v r
  RunsOn stdin table (WhyStocks limit all) u v r =
      ReadsTable (left_of remaining left) (left_of remaining left) left contents files table
      (λ t. HasWhyStocksReport t limit all) u v r
  RunsOn stdin table (Lint form) u v r = ReadsTable (left_of remaining left)
      (left_of remaining left) left contents files table (λ t. HasLintReport t form) u v r
  RunsOn stdin table Draw u v r = ReadsTable (left_of remaining left) (left_of remaining left) left
      contents files table (λ t. HasDrawReport t) u v r
  RunsOn stdin table (Why limit all form) u v r =
      ReadsTable (left_of remaining left) (left_of remaining left) left contents files table
      (λ t. HasWhyReport t limit all form) u v r
  RunsOn stdin table (WhyRecoverable all form) u v r =
      ReadsTable (left_of remaining left) (left_of remaining left) left contents files table
      (λ t. HasWhyRecoverableReport t all form) u v r
  RunsOn stdin table (WhyUnread all form) u v r =
      ReadsTable (left_of remaining left) (left_of remaining left) left contents files table
      (λ t. HasWhyUnreadReport t all form) u v r
  RunsOn stdin table (Pairs form) u v r =
      ReadsTable (left_of remaining left) (left_of remaining left) left contents files table
      (λ t. HasPairsReport t form) u v r
  RunsOn stdin table (Changes recoverable without_read pairs form) u v r =
      ReadsTable (left_of remaining left) (left_of remaining left) left contents files table
      (λ t. HasChangesReport t (asked_changes recoverable without_read pairs form)) u v r
  RunsOn stdin table (Check certificate form) u v r = With stdin certificate
      (λ c. ReadsBoth (left_of remaining left) (left_of remaining left) left contents files table c
      (Unit {0}) (λ t d. HasCheckReport t d form) u v r)
  RunsOn stdin table (CheckUnread certificate form) u v r = With stdin certificate
      (λ c. ReadsBoth (left_of remaining left) (left_of remaining left) left contents files table c
      (Unit {0}) (λ t d. HasCheckUnreadReport t d form) u v r)
  RunsOn stdin table (CheckShortest certificate form) u v r = With stdin certificate
      (λ c. ReadsBoth (left_of remaining left) (left_of remaining left) left contents files table c
      (Unit {0}) (λ t d. HasCheckShortestReport t d form) u v r)
  RunsOn stdin table (CheckStocks certificate form) u v r = With stdin certificate
      (λ c. ReadsBoth (left_of remaining left) (left_of remaining left) left contents files table c
      (Unit {0}) (λ t d. HasCheckStocksReport t d form) u v r)
  RunsOn stdin table (ExplainStocks certificate all) u v r = With stdin certificate
      (λ c. ReadsBoth (left_of remaining left) (left_of remaining left) left contents files table c
      (Unit {0}) (λ t d. HasExplainStocksReport t d all) u v r)
  RunsOn stdin table (Explain certificate all form) u v r = With stdin certificate
      (λ c. ReadsBoth (left_of remaining left) (left_of remaining left) left contents files table c
      (Unit {0}) (λ t d. HasExplainReport t d all form) u v r)
  RunsOn stdin table (Show certificate words) u v r = With stdin certificate
      (λ c. RunsShow (left_of remaining left) (left_of remaining left) left contents files table c
      words u v r)
  RunsOn stdin table (Agree certificate inputs schedule steps form) u v r = With stdin certificate
      (λ c. RunsAgree (left_of remaining left) (left_of remaining left) left contents files table c
      inputs.now schedule.now (record { steps = steps; form = form }) u v r)
  RunsOn stdin table (Replay opening events form) u v r = With stdin opening.certificate
      (λ c. RunsReplay (left_of remaining left) (left_of remaining left) left contents files
      table c opening events.now form u v r)
  RunsOn stdin table (Serve opening calls form) u v r = With stdin opening.certificate
      (λ c. RunsServe (left_of remaining left) (left_of remaining left) left contents files
      table c opening calls.now form u v r)

  -- the same for the table of this source, of which nothing was read before
  abbrev pub Runs : S → TextSource → Command → Output W → Output W
      → Result Outcome AppFault → Type 0
  Runs stdin source command u v r = (table : Text (TextReader S D F))
      × IsTextFrom left files stdin source table × RunsOn stdin table command u v r
