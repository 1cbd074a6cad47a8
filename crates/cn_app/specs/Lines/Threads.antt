-- The text of a service: the calls of each process, the entries of the log, and the events.
use Rattle.std.specs.Prelude.{ℕ, ◌+◌, List, ◌++◌, codes, [], ◌∷◌, All, map}
use Rattle.std.specs.Prelude.{None, Option, Some}
use Rattle.std.specs.Fmt.{decimal}
use Rattle.serde_json.specs.Written.{compact_text}
use Rattle.cn_table.specs.TypeTable.{TypeTable}
use Rattle.cn_log.specs.Linearized.{entry_slots}
use Rattle.cn_log.specs.Log.{entries}
use Rattle.cn_log.specs.Opening.{Log, setting}
use Rattle.cn_log.specs.declared.event.CallEnd.{CallEnd}
use Rattle.cn_log.specs.declared.event.CallEnd.TheVariants.{Answered, Full}
use Rattle.cn_log.specs.declared.event.Reply.{Reply}
use Rattle.cn_hall.specs.declared.call.CallFault.{CallFault}
use Rattle.cn_hall.specs.declared.call.CallFault.TheVariants.{LogFull, Stopped}
use Rattle.cn_plan_text.specs.Events.{events_line}
use Rattle.cn_plan_text.specs.Log.{answer_line, entry_lines, reply_lines, RepliesHaveResponses}
use Rattle.cn_json.specs.Log.{service_data}
use Rattle.cn_form.specs.declared.answer_form.AnswerForm.{AnswerForm}
use Rattle.cn_json.specs.declared.log.AnswerOf.{AnswerOf}
use Rattle.cn_app.specs.Forms.{if_json}
use Rattle.cn_service.specs.declared.workers.ProcessHistory.{ProcessHistory}

-- the line of the call that has no reply, if there is one
abbrev pub fault_line : TypeTable → ℕ → Option CallFault → List ℕ
fault_line object p None = []
fault_line object p (Some LogFull) = answer_line object p Full
fault_line object p (Some Stopped) = codes "stopped " ++ decimal p ++ codes "\n"

-- the lines of the calls of a process, in order
abbrev pub call_lines : TypeTable → ℕ → List Reply → Option CallFault → List ℕ
call_lines object p replies fault = reply_lines object p replies ++ fault_line object p fault

-- the lines of the calls of each process, from process p on
abbrev pub history_lines : TypeTable → ℕ → List ProcessHistory → List ℕ
history_lines object p [] = []
history_lines object p (w ∷ ws) =
    call_lines object p w.replies.items w.fault ++ history_lines object (p + 1) ws

-- the lines of a service: the calls, process by process, then the entries of the log, and last the
-- events
abbrev pub service_lines : TypeTable → ℕ → List ProcessHistory → Log → List ℕ
service_lines object start worked core = history_lines object 0 worked
    ++ entry_lines object start (entries (setting core) core.schedule)
    (entry_slots (setting core) core.schedule) ++ events_line core.schedule

-- the replies to the calls of a process, as JSON tells them
abbrev pub reply_answers : ℕ → List Reply → List AnswerOf
reply_answers p replies =
    map (λ reply. record { process = p; end = Some (Answered reply) }) replies

-- how a call with this fault ended: one that is stopped has no end
abbrev pub end_by : CallFault → Option CallEnd
end_by LogFull = Some Full
end_by Stopped = None

-- the call that has no reply, if there is one
abbrev pub fault_answers : ℕ → Option CallFault → List AnswerOf
fault_answers p None = []
fault_answers p (Some fault) = record { process = p; end = end_by fault } ∷ []

abbrev pub call_answers : ℕ → List Reply → Option CallFault → List AnswerOf
call_answers p replies fault = reply_answers p replies ++ fault_answers p fault

-- the calls of each process, from process p on
abbrev pub history_answers : ℕ → List ProcessHistory → List AnswerOf
history_answers p [] = []
history_answers p (w ∷ ws) = call_answers p w.replies.items w.fault ++ history_answers (p + 1) ws

-- what the lines tell, as one JSON object
abbrev pub service_object : TypeTable → ℕ → List ProcessHistory → Log → List ℕ
service_object object start worked core = compact_text (service_data object start
    (history_answers 0 worked) (entries (setting core) core.schedule)
    (entry_slots (setting core) core.schedule) core.schedule) ++ codes "\n"

-- the text of a service in a form
abbrev pub service_text : AnswerForm → TypeTable → ℕ → List ProcessHistory → Log → List ℕ
service_text form object start worked core = if_json form
    (service_object object start worked core) (service_lines object start worked core)

-- the response of each reply to each process is one of the object's
abbrev pub EachHasResponses : TypeTable → List ProcessHistory → Type 0
EachHasResponses object worked = All (λ w. RepliesHaveResponses object w.replies.items) worked
