-- What happened in a log as JSON values: its calls, its entries and its events.
use Rattle.std.specs.Prelude.{ℕ, List, [], ◌∷◌, ◌++◌, All, codes, IfSome, None, Option, Some}
use Rattle.std.specs.Fmt.{decimal}
use Rattle.serde_json.specs.Data.{Data, array, object, member, no_members}
use Rattle.serde_json.specs.View.{items_of}
use Rattle.cn_table.specs.Names.{name_at}
use Rattle.cn_table.specs.TypeTable.{TypeTable, transition}
use Rattle.cn_log.specs.CallEnds.{EndsWithResponse}
use Rattle.cn_log.specs.declared.entry.Entry.{Entry}
use Rattle.cn_log.specs.declared.event.CallEnd.{CallEnd}
use Rattle.cn_log.specs.declared.event.CallEnd.TheVariants.{Answered, Full}
use Rattle.cn_log.specs.declared.event.Event.{Event}
use Rattle.cn_log.specs.declared.event.Event.TheVariants.{Invoke, Step}
use Rattle.cn_json.specs.Names.{operation_data, response_data}
use Rattle.cn_json.specs.Values.{list_data, number_data, text_data}
use Rattle.cn_json.specs.declared.log.AnswerOf.{AnswerOf}

-- a call of a process that has no response
abbrev pub unanswered_data : List ℕ → ℕ → Data
unanswered_data end process =
    object (member (codes "end") (text_data end)
    (member (codes "process") (number_data process) no_members))

-- a call that has no end was stopped
abbrev pub end_data : TypeTable → ℕ → Option CallEnd → Data
end_data t process (Some (Answered reply)) =
    object (member (codes "end") (text_data (codes "answered"))
    (member (codes "process") (number_data process)
    (member (codes "response") (response_data t reply.response)
    (member (codes "slot") (number_data reply.slot) no_members))))
end_data t process (Some Full) = unanswered_data (codes "full") process
end_data t process None = unanswered_data (codes "stopped") process

-- how a call of a process ended
abbrev pub answer_data : TypeTable → AnswerOf → Data
answer_data t a = end_data t a.process a.end

-- the response of each call, if there is one, is one of the object's
abbrev pub HaveResponses : TypeTable → List AnswerOf → Type 0
HaveResponses t answers = All (λ a. IfSome a.end (EndsWithResponse t)) answers

-- an entry in a slot: its operation and process, the response of the object, and the state after it
abbrev pub placed_data : TypeTable → ℕ → Entry → ℕ × ℕ → Data
placed_data t slot e given =
    object (member (codes "operation") (operation_data t e.operation)
    (member (codes "process") (number_data e.process)
    (member (codes "response") (text_data (name_at t.responses given.0))
    (member (codes "slot") (number_data slot)
    (member (codes "state") (text_data (name_at t.states given.1)) no_members)))))

-- the entries, each with its slot, as one sequential run from a state
abbrev pub entries_list : TypeTable → ℕ → List Entry → List ℕ → List Data
entries_list t state [] slots = []
entries_list t state (e ∷ es) [] = []
entries_list t state (e ∷ es) (slot ∷ slots) =
    placed_data t slot e (transition t e.operation.0 state)
    ∷ entries_list t (transition t e.operation.0 state).1 es slots

abbrev pub entries_data : TypeTable → ℕ → List Entry → List ℕ → Data
entries_data t start es slots = array (items_of (entries_list t start es slots))

-- the text of an event, in the form in which lists of events are read
abbrev pub event_text : Event → List ℕ
event_text (Invoke p operation) = codes "i" ++ decimal p ++ codes ":" ++ decimal operation
event_text (Step p) = codes "s" ++ decimal p

abbrev pub event_data : Event → Data
event_data e = text_data (event_text e)

-- the calls that ended, and the entries
unfoldable pub log_data : TypeTable → ℕ → List AnswerOf → List Entry → List ℕ → Data
log_data t start answers es slots =
    object (member (codes "answers") (list_data (answer_data t) answers)
    (member (codes "entries") (entries_data t start es slots) no_members))

-- the same, and the events
unfoldable pub service_data : TypeTable → ℕ → List AnswerOf → List Entry → List ℕ → List Event
    → Data
service_data t start answers es slots events =
    object (member (codes "answers") (list_data (answer_data t) answers)
    (member (codes "entries") (entries_data t start es slots)
    (member (codes "events") (list_data event_data events) no_members)))
