-- What `replay` writes, by the opening of the log, the events and the form.
use Rattle.std.specs.Prelude.{List, ◌≡◌, ◌⊎◌, ℕ, [], ◌++◌, codes, Result, Ok, Err, IsSome}
use Rattle.std.specs.Prelude.{string_bytes}
use Rattle.serde_json.specs.Written.{compact_text}
use Rattle.cn_log.specs.Log.{IsEventList, entries}
use Rattle.cn_log.specs.Linearized.{IsLinearized, entry_slots}
use Rattle.cn_log.specs.Opening.{Opening, setting_of}
use Rattle.cn_log.specs.Faults.{IsFirstEventFault, replay_fault}
use Rattle.cn_log.specs.declared.event.CallEnd.{CallEnd}
use Rattle.cn_log.specs.declared.event.Event.{Event}
use Rattle.cn_log.specs.declared.fault.EventFault.{EventFault}
use Rattle.cn_plan_text.specs.Log.{answer_lines, entry_lines}
use Rattle.cn_json.specs.Log.{log_data}
use Rattle.cn_form.specs.declared.answer_form.AnswerForm.{AnswerForm}
use Rattle.cn_app.specs.Answers.{answers_told, has_full, ends_after}
use Rattle.cn_io.specs.Arguments.Events.{GivesCapacity, GivesEvents, capacity_of, events_in}
use Rattle.cn_io.specs.Arguments.Events.{events_of, words_of}
use Rattle.cn_app.specs.Forms.{if_json}
use Rattle.cn_io.specs.Outcomes.{cut_if}
use Rattle.cn_io.specs.Steps.{Then}
use Rattle.cn_io.specs.Texts.Openings.{GivesOpening}
use Rattle.cn_io.specs.declared.arguments.list_text.ListText.{ListText}
use Rattle.cn_io.specs.declared.readers.opening.OpeningArguments.{OpeningArguments}
use Rattle.cn_io.specs.declared.report.Outcome.{Outcome}
use Rattle.cn_io.specs.declared.report.Report.{Report}
use Rattle.cn_io.specs.declared.fault.AppFault.{AppFault}
use Rattle.cn_io.specs.declared.fault.AppFault.TheVariants.{OutOfMemory, Replay}

-- cut where some call found no slot
abbrev pub outcome_of_answers : List (ℕ × CallEnd) → Outcome
outcome_of_answers ends = cut_if (has_full ends)

-- the log that events leave, in lines: its answers, and then its entries
abbrev pub log_lines : Opening → List Event → List (ℕ × CallEnd) → List ℕ
log_lines o events ends = answer_lines o.object ends
    ++ entry_lines o.object o.start (entries (setting_of o) events)
    (entry_slots (setting_of o) events)

-- the same as one JSON object
abbrev pub log_object : Opening → List Event → List (ℕ × CallEnd) → List ℕ
log_object o events ends = compact_text (log_data o.object o.start (answers_told ends)
    (entries (setting_of o) events) (entry_slots (setting_of o) events)) ++ codes "\n"

-- the text of a log in a form
abbrev pub log_text : AnswerForm → Opening → List Event → List (ℕ × CallEnd) → List ℕ
log_text told o events ends = if_json told (log_object o events ends) (log_lines o events ends)

-- each event can come where it stands, the log that they leave is linearized, this is its text, and
-- the command ends like this
pub record IsServed (told : AnswerForm) (o : Opening) (events : List Event) (text : List ℕ)
    (outcome : Outcome) : Type 0 where
  pub may_come : IsEventList (setting_of o) events
  pub linearized : IsLinearized (setting_of o) events
  pub written : text ≡ log_text told o events (ends_after (setting_of o) [] events)
  pub ended : outcome ≡ outcome_of_answers (ends_after (setting_of o) [] events)

-- e is for the first event that cannot come
abbrev pub IsEventFault : Opening → List Event → AppFault → Type 0
IsEventFault o events e = (fault : EventFault) × IsFirstEventFault (setting_of o) events fault
    × (e ≡ Replay (replay_fault fault))

-- serving an object by events ends so
abbrev pub IsReplayReport : AnswerForm → Opening → List Event → Result Report AppFault → Type 0
IsReplayReport told o events (Ok report) =
    IsServed told o events (string_bytes report.text) report.outcome
IsReplayReport told o events (Err e) = (e ≡ OutOfMemory) ⊎ IsEventFault o events e

-- what `replay` has to say of its arguments: the number of slots and then the events are read
-- before the texts, and the object says which operations have the names
abbrev pub HasReplayReport : {R C O : Type 0} → OpeningArguments R C O → ListText → AnswerForm
    → Result Report AppFault → Type 0
HasReplayReport given events told r =
    Then (GivesCapacity given.capacity.now) (λ slots. Then (GivesEvents events)
    (λ list.
    Then (GivesOpening given slots)
    (λ o. IsReplayReport told o (events_in o.object (words_of list))))) r

-- the words spell a number of slots and events
abbrev pub SpellEvents : List ℕ → ListText → Type 0
SpellEvents capacity events = IsSome (capacity_of capacity) × IsSome (events_of events)
