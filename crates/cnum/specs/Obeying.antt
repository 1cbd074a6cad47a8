-- What the program does with a command: what becomes of its streams, and how it ends.
use Rattle.std.specs.Prelude.{◌≡◌, ℕ, Bool, List, Option, Result}
use Rattle.cn_words.specs.declared.commands.Command.{Command}
use Rattle.cn_words.specs.declared.commands.Invocation.{Invocation}
use Rattle.cn_words.specs.declared.commands.Invocation.TheVariants.{Classify, Lives, OfTable}
use Rattle.cn_words.specs.declared.commands.Invocation.TheVariants.{RecoverablePlan, ShortestPlan}
use Rattle.cn_words.specs.declared.commands.Invocation.TheVariants.{ShortestRun}
use Rattle.cn_words.specs.declared.commands.TextSource.{TextSource}
use Rattle.cn_words.specs.declared.plan_words.PlanWords.{PlanWords}
use Rattle.cn_words.specs.declared.without_certificate.RunWords.{RunWords}
use Rattle.cn_form.specs.declared.answer_form.AnswerForm.{AnswerForm}
use Rattle.cn_io.specs.Streams.Writing.{IsUnwritten}
use Rattle.cn_io.specs.declared.fault.AppFault.{AppFault}
use Rattle.cn_io.specs.declared.report.Outcome.{Outcome}
use Rattle.cn_app.specs.declared.reports.classify.AskedNumbers.{AskedNumbers}
use Rattle.cn_app.specs.declared.reports.shortest.AskedPlan.{AskedPlan}
use Rattle.cn_io.specs.declared.streams.output.Output.{Output}
use Rattle.cnum.specs.Exits.{classify_status, command_status}
use Rattle.cnum.specs.LivesRuns.{RunsLives, ShowsRecoverable}
use Rattle.cnum.specs.NamedTables.{ClassifiesSources, bytes_of}
use Rattle.cnum.specs.Runs.{Runs}
use Rattle.cnum.specs.ShortestRuns.{RunsShortest, ShowsShortest}
use Rattle.cnum.specs.Texts.{left_of}
use Rattle.cnum.specs.declared.awaited_input.AwaitedInput.{AwaitedInput}
use Rattle.cnum.specs.declared.faults.Faults.{Faults}
use Rattle.cnum.specs.declared.lazy_file.LazyFile.{LazyFile}
use Rattle.cnum.specs.declared.pipe_writer.PipeWriter.{PipeWriter}

-- in terms of the bytes that standard input and files have left, those that the writer holds, and
-- those of the file of each name, if they are known
module _ {S F D W : Type 0} (remaining : S → Option (List ℕ)) (left : LazyFile D F
    → Option (List ℕ)) (contents : W → Option (List ℕ))
    (files : List ℕ → Option (List ℕ)) where
  -- a command of one table was run, and the exit status is that of its result
  abbrev pub RunsOne : S → TextSource → Command → Output W → Output W → ℕ → Type 0
  RunsOne stdin table command u v status = (end : Result Outcome AppFault)
      × Runs remaining left contents files stdin table command u v end
      × (status ≡ command_status end)

  -- a plan was run by a schedule of steps and crashes, and the exit status is that of the result
  abbrev pub RunsPlans : S → TextSource → RunWords → Output W → Output W → ℕ → Type 0
  RunsPlans stdin table words u v status = (end : Result Outcome AppFault)
      × RunsLives remaining left contents files stdin table words u v end
      × (status ≡ command_status end)

  -- the shortest plan was run by a schedule, with the status of the result
  abbrev pub RunsShortestPlans : S → TextSource → Bool → RunWords → Output W → Output W → ℕ
      → Type 0
  RunsShortestPlans stdin table without_read words u v status = (end : Result Outcome AppFault)
      × RunsShortest remaining left contents files stdin table without_read words u v end
      × (status ≡ command_status end)

  -- the shortest plan was written, with the status of the result
  abbrev pub ShowsShortestPlans : S → TextSource → AskedPlan → PlanWords → Output W → Output W
      → ℕ → Type 0
  ShowsShortestPlans stdin table asked words u v status = (end : Result Outcome AppFault)
      × ShowsShortest remaining left contents files stdin table asked words u v end
      × (status ≡ command_status end)

  -- the plan of the first recording witness was written, with the status of the result
  abbrev pub ShowsRecoverablePlans : S → TextSource → Option ℕ → AnswerForm → Output W → Output W
      → ℕ → Type 0
  ShowsRecoverablePlans stdin table processes form u v status = (end : Result Outcome AppFault)
      × ShowsRecoverable remaining left contents files stdin table processes form u v end
      × (status ≡ command_status end)

  -- the tables of these sources were classified for the numbers asked for, and the exit status is
  -- that of the first fault
  abbrev pub ClassifiesAll : S → AskedNumbers → List TextSource → Output W → Output W → ℕ → Type 0
  ClassifiesAll stdin asked sources u v status =
      (first : Result (Option AppFault) AppFault) × (before : Faults D) × (after : Faults D)
      × ClassifiesSources (left_of remaining left) contents (λ _ _ _ _. Unit {0})
      (λ _ _ _ _. Unit {0}) (bytes_of (remaining stdin) files)
      sources asked u before v after first × (status ≡ classify_status first)

  -- what the words ask for is done: the tables that `classify` names are classified, a command of one
  -- table is run, a plan is run by a schedule of steps and crashes or written, or the shortest plan is
  -- run or written
  abbrev pub Does : S → Invocation → Output W → Output W → ℕ → Type 0
  Does stdin (Classify limit recoverable without_read form tables) u v status = ClassifiesAll stdin
      (record {
        limit = limit;
        recoverable = recoverable;
        without_read = without_read;
        form = form;
      }) tables.items u v status
  Does stdin (OfTable table command) u v status = RunsOne stdin table command u v status
  Does stdin (Lives table words) u v status = RunsPlans stdin table words u v status
  Does stdin (ShortestRun table without_read words) u v status =
      RunsShortestPlans stdin table without_read words u v status
  Does stdin (ShortestPlan table without_read processes words) u v status =
      ShowsShortestPlans stdin table
      (record { processes = processes; without_read = without_read }) words u v status
  Does stdin (RecoverablePlan table processes form) u v status =
      ShowsRecoverablePlans stdin table processes form u v status

-- in the same terms: the command was done with these streams, of which nothing was used before, and
-- the writer is handed back as the command left it; a reader over standard input read the command's
-- input
abbrev pub Obeys : {S F D W : Type 0} → (S → Option (List ℕ)) → (LazyFile D F → Option (List ℕ))
    → (W → Option (List ℕ)) → (List ℕ → Option (List ℕ))
    → S → W → Invocation → ℕ → PipeWriter W → Type 0
Obeys {S} {F} {D} {W} remaining left contents files stdin stdout given status back =
    (u : Output (PipeWriter W)) × (v : Output (PipeWriter W)) × (awaited : AwaitedInput D S)
    × (u.writer.writer ≡ stdout) × IsUnwritten u
    × (awaited.input ≡ stdin) × (v.writer ≡ back)
    × Does (λ it. remaining it.input) left (λ pipe. contents pipe.writer) files awaited given u v
    status
