-- What `serve` writes, by the opening of the log and the calls, by the form, and by what the threads
-- did.
use Rattle.std.specs.Prelude.{true, false, List, ℕ, ◌≡◌, length, slice_get, Some, ◌⊎◌, map}
use Rattle.std.specs.Prelude.{Result, Ok, Err, IsSome, is_some, string_bytes}
use Rattle.std.specs.List.{list_any}
use Rattle.cn_log.specs.Opening.{Log, Opening, setting}
use Rattle.cn_log.specs.Bypass.{IsBypassBounded}
use Rattle.cn_log.specs.Linearized.{IsLinearized}
use Rattle.cn_log.specs.Log.{IsEventList}
use Rattle.cn_log.specs.OwnSteps.{IsWaitFree}
use Rattle.cn_form.specs.declared.answer_form.AnswerForm.{AnswerForm}
use Rattle.cn_io.specs.Arguments.Calls.{GivesCalls, calls_fit, calls_in, calls_of}
use Rattle.cn_io.specs.Arguments.Events.{GivesCapacity, capacity_of}
use Rattle.cn_io.specs.Outcomes.{cut_if}
use Rattle.cn_io.specs.Steps.{Then}
use Rattle.cn_io.specs.Texts.Openings.{GivesOpening}
use Rattle.cn_io.specs.declared.arguments.list_text.ListText.{ListText}
use Rattle.cn_io.specs.declared.readers.opening.OpeningArguments.{OpeningArguments}
use Rattle.cn_io.specs.declared.report.Report.{Report}
use Rattle.cn_service.specs.Serving.{HasServed}
use Rattle.cn_app.specs.Lines.Threads.{service_text}
use Rattle.cn_io.specs.declared.report.Outcome.{Outcome}
use Rattle.cn_service.specs.declared.workers.ProcessHistory.{ProcessHistory}
use Rattle.cn_io.specs.declared.fault.AppFault.{AppFault}
use Rattle.cn_io.specs.declared.fault.AppFault.TheVariants.{Argument, OutOfMemory, Thread}
use Rattle.cn_io.specs.declared.fault.Argument.TheVariants.{Calls}

-- cut where some call has no reply
abbrev pub outcome_of_calls : List ProcessHistory → Outcome
outcome_of_calls worked = cut_if (list_any (λ w. is_some w.fault) worked)

-- the calls are ones of the plan's processes and the object's operations; there is one log of this
-- opening, linearized, with no call passed by for long and each over within so many steps of its
-- process, in which each process has made its calls as far as they came, and of which this holds;
-- the text tells its replies, process by process, then the entries of the log, and last its events;
-- and the command ends like this
pub record IsServedByThreads (gates : Log → List ProcessHistory → Type 0) (told : AnswerForm)
    (o : Opening) (calls : List (List ℕ)) (text : List ℕ) (outcome : Outcome)
    : Type 0 where
  pub fit : calls_fit o calls ≡ true
  pub log : Log
  pub opened : log.opening ≡ o
  pub may_come : IsEventList (setting log) log.schedule
  pub linearized : IsLinearized (setting log) log.schedule
  pub bypass : IsBypassBounded (setting log) log.schedule
  pub wait_free : IsWaitFree (setting log) log.schedule
  pub worked : List ProcessHistory
  pub each : length worked ≡ length calls
  pub served : (p : ℕ) (c : List ℕ) (w : ProcessHistory) → slice_get calls p ≡ Some c
      → slice_get worked p ≡ Some w → HasServed log p c w.replies.items w.fault
  pub gated : gates log worked
  pub written : text ≡ service_text told o.object o.start worked log
  pub ended : outcome ≡ outcome_of_calls worked

-- serving an object by threads ends so: served; or memory ran out, or the calls are not ones of the
-- plan's processes and the object's operations, or they are, and a thread could not be started
abbrev pub IsServeReport : (Log → List ProcessHistory → Type 0) → AnswerForm → Opening
    → List (List ℕ) → Result Report AppFault → Type 0
IsServeReport gates told o calls (Ok report) =
    IsServedByThreads gates told o calls (string_bytes report.text) report.outcome
IsServeReport gates told o calls (Err e) = (e ≡ OutOfMemory) ⊎ (((calls_fit o calls ≡ false)
    × (e ≡ Argument Calls)) ⊎ ((calls_fit o calls ≡ true) × (e ≡ Thread)))

-- what `serve` has to say of its arguments: the number of slots and then the calls are read before
-- the texts, and the object says which operations have the names
abbrev pub HasServeReport : {R C O : Type 0} → (Log → List ProcessHistory → Type 0)
    → OpeningArguments R C O → ListText → AnswerForm → Result Report AppFault → Type 0
HasServeReport gates given calls told r =
    Then (GivesCapacity given.capacity.now) (λ slots. Then (GivesCalls calls)
    (λ lists. Then (GivesOpening given slots)
    (λ o. IsServeReport gates told o (calls_in o.object (map (λ list. list.items) lists.items))))) r

-- the words spell a number of slots and lists of calls
abbrev pub SpellCalls : List ℕ → ListText → Type 0
SpellCalls capacity calls = IsSome (capacity_of capacity) × IsSome (calls_of calls)
