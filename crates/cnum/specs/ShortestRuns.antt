-- What the commands of the shortest plan read and write, by the words for them.
use Rattle.std.specs.Prelude.{◌≡◌, ◌⊎◌, ℕ, Bool, List, None, Option, Some, Result}
use Rattle.cn_words.specs.declared.commands.TextSource.{TextSource}
use Rattle.cn_words.specs.declared.plan_words.ObjectWords.{ObjectWords}
use Rattle.cn_words.specs.declared.plan_words.PlanWords.{PlanWords}
use Rattle.cn_words.specs.declared.without_certificate.RunWords.{RunWords}
use Rattle.cn_app.specs.Commands.Agree.{SpellLists}
use Rattle.cn_app.specs.Commands.AgreeShortest.{HasAgreeShortestReport}
use Rattle.cn_app.specs.Commands.ShowShortest.{HasShowShortestObjectReport}
use Rattle.cn_app.specs.Commands.ShowShortest.{HasShowShortestReport}
use Rattle.cn_app.specs.declared.plan_style.PlanStyle.{PlanStyle}
use Rattle.cn_app.specs.declared.reports.shortest.AskedPlan.{AskedPlan}
use Rattle.cn_io.specs.Streams.Reading.{HasRead}
use Rattle.cn_io.specs.Streams.Writing.{Reports}
use Rattle.cn_io.specs.declared.arguments.list_text.ListText.{ListText}
use Rattle.cn_io.specs.declared.fault.AppFault.{AppFault}
use Rattle.cn_io.specs.declared.fault.Argument.TheVariants.{Inputs, Schedule}
use Rattle.cn_io.specs.declared.fault.Source.TheVariants.{Table}
use Rattle.cn_io.specs.declared.report.Outcome.{Outcome}
use Rattle.cn_io.specs.declared.streams.output.Output.{Output}
use Rattle.cn_io.specs.declared.streams.text.Text.{Text}
use Rattle.cnum.specs.Runs.{ReadsList, ReadsStyle, ReadsTable, ReadsTableAndObject}
use Rattle.cnum.specs.Texts.{IsTextFrom, left_of}
use Rattle.cnum.specs.declared.lazy_file.LazyFile.{LazyFile}
use Rattle.cnum.specs.declared.text_reader.TextReader.{TextReader}

-- in terms of the bytes that the readers of tables and of files have left, those that the writer
-- holds, and those of the file of each name, if they are known
module _ {R L W : Type 0} (remaining : R → Option (List ℕ)) (left : L → Option (List ℕ))
    (contents : W → Option (List ℕ)) (files : List ℕ → Option (List ℕ)) where
  -- the shortest plan of a table was written, with an object if there are words for one
  abbrev pub WritesShortestPlan : Text R → AskedPlan → Option ObjectWords → PlanStyle → Output W
      → Output W → Result Outcome AppFault → Type 0
  WritesShortestPlan table asked None style u v r =
      ReadsTable {C = R} remaining remaining left contents files table
      (λ t. HasShowShortestReport t asked style) u v r
  WritesShortestPlan table asked (Some words) style u v r =
      ReadsTableAndObject {C = R} remaining remaining left contents files table words
      (λ t o. HasShowShortestObjectReport t o words.start.now asked style) u v r

-- in terms of the bytes that standard input and files have left, those that the writer holds, and
-- those of the file of each name, if they are known
module _ {S D F W : Type 0} (remaining : S → Option (List ℕ)) (left : LazyFile D F
    → Option (List ℕ)) (contents : W → Option (List ℕ))
    (files : List ℕ → Option (List ℕ)) where
  -- the shortest plan of the table of this source was written, of which nothing was read before
  abbrev pub WritesShortestPlanOf : S → TextSource → AskedPlan → Option ObjectWords → PlanStyle
      → Output W → Output W → Result Outcome AppFault → Type 0
  WritesShortestPlanOf stdin source asked object style u v r = (table : Text (TextReader S D F))
      × IsTextFrom left files stdin source table
      × WritesShortestPlan (left_of remaining left) left contents files table asked object style u v r

  -- the words for the style are read first
  abbrev pub ShowsShortest : S → TextSource → AskedPlan → PlanWords → Output W → Output W
      → Result Outcome AppFault → Type 0
  ShowsShortest stdin source asked words u v r =
      ReadsStyle words.style (WritesShortestPlanOf stdin source asked words.object) u v r

  -- the table of this source was read, of which nothing was read before, and the report on a run of
  -- its shortest plan was written, unless the lists have a fault
  pub record RunsShortestPlan (stdin : S) (source : TextSource) (without_read : Bool)
      (inputs schedule : ListText) (words : RunWords) (u v : Output W) (r : Result Outcome AppFault) : Type 0 where
    pub table : Text (TextReader S D F)
    pub after : Text (TextReader S D F)
    pub text : IsTextFrom left files stdin source table
    pub read : HasRead Table (left_of remaining left) table after
    pub order : (after ≡ table) ⊎ SpellLists inputs schedule
    pub reported : Reports contents (HasAgreeShortestReport after inputs schedule
        (record { processes = words.processes; without_read = without_read })
        (record { steps = words.steps; form = words.form })) u v r

  -- the lists are read first, from left to right
  abbrev pub RunsShortest : S → TextSource → Bool → RunWords → Output W → Output W
      → Result Outcome AppFault → Type 0
  RunsShortest stdin source without_read words u v r =
      ReadsList {R = S} {C = S} remaining remaining left contents files words.inputs.now Inputs
      (λ xs. ReadsList {R = S} {C = S} remaining remaining left contents files words.schedule.now
      Schedule (λ ps. RunsShortestPlan stdin source without_read xs ps words)) u v r
