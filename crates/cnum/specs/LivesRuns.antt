-- What the commands of processes that crash and come back read and write, by the words for them.
use Rattle.std.specs.Prelude.{◌≡◌, ◌⊎◌, ℕ, List, Option, Result}
use Rattle.cn_form.specs.declared.answer_form.AnswerForm.{AnswerForm}
use Rattle.cn_words.specs.declared.commands.TextSource.{TextSource}
use Rattle.cn_words.specs.declared.without_certificate.RunWords.{RunWords}
use Rattle.cn_io.specs.Arguments.Lives.{SpellLifeLists}
use Rattle.cn_app.specs.Commands.Lives.{HasLivesReport}
use Rattle.cn_app.specs.Commands.ShowRecoverable.{HasShowRecoverableReport}
use Rattle.cn_io.specs.Streams.Reading.{HasRead}
use Rattle.cn_io.specs.Streams.Writing.{Reports}
use Rattle.cn_io.specs.declared.arguments.list_text.ListText.{ListText}
use Rattle.cn_io.specs.declared.fault.AppFault.{AppFault}
use Rattle.cn_io.specs.declared.fault.Argument.TheVariants.{Inputs, Schedule}
use Rattle.cn_io.specs.declared.fault.Source.TheVariants.{Table}
use Rattle.cn_io.specs.declared.report.Outcome.{Outcome}
use Rattle.cn_app.specs.declared.reports.lives.AskedLives.{AskedLives}
use Rattle.cn_io.specs.declared.streams.output.Output.{Output}
use Rattle.cn_io.specs.declared.streams.text.Text.{Text}
use Rattle.cnum.specs.Runs.{ReadsList}
use Rattle.cnum.specs.Texts.{IsTextFrom, left_of}
use Rattle.cnum.specs.declared.lazy_file.LazyFile.{LazyFile}
use Rattle.cnum.specs.declared.text_reader.TextReader.{TextReader}

-- what the words ask for
abbrev pub asked_by : RunWords → AskedLives
asked_by words = record {
  processes = words.processes;
  steps = words.steps;
  form = words.form;
}

-- in terms of the bytes that standard input and files have left, those that the writer holds, and
-- those of the file of each name, if they are known
module _ {S D F W : Type 0} (remaining : S → Option (List ℕ)) (left : LazyFile D F
    → Option (List ℕ)) (contents : W → Option (List ℕ))
    (files : List ℕ → Option (List ℕ)) where
  -- the table of this source was read, of which nothing was read before, and the report on its plan
  -- for these processes was written
  pub record ShowsRecoverable (stdin : S) (source : TextSource) (processes : Option ℕ)
      (form : AnswerForm) (u v : Output W) (r : Result Outcome AppFault) : Type 0 where
    pub table : Text (TextReader S D F)
    pub after : Text (TextReader S D F)
    pub text : IsTextFrom left files stdin source table
    pub read : HasRead Table (left_of remaining left) table after
    pub reported : Reports contents (HasShowRecoverableReport after processes form) u v r

  -- the table of this source was read, of which nothing was read before, unless the lists have a
  -- fault, and the report on it was written
  pub record RunsPlan (stdin : S) (source : TextSource) (inputs schedule : ListText)
      (asked : AskedLives) (u v : Output W) (r : Result Outcome AppFault) : Type 0 where
    pub table : Text (TextReader S D F)
    pub after : Text (TextReader S D F)
    pub text : IsTextFrom left files stdin source table
    pub read : HasRead Table (left_of remaining left) table after
    pub order : (after ≡ table) ⊎ SpellLifeLists inputs schedule
    pub reported : Reports contents (HasLivesReport after inputs schedule asked) u v r

  -- the lists are read first, from left to right
  abbrev pub RunsLives : S → TextSource → RunWords → Output W → Output W
      → Result Outcome AppFault → Type 0
  RunsLives stdin source words u v r =
      ReadsList {R = S} {C = S} remaining remaining left contents files words.inputs.now Inputs
      (λ xs. ReadsList {R = S} {C = S} remaining remaining left contents files words.schedule.now
      Schedule (λ ps. RunsPlan stdin source xs ps (asked_by words))) u v r
