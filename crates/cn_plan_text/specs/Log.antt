-- The lines of a log: its calls that ended, and its entries.
use Rattle.std.specs.Prelude.{ℕ, List, [], ◌∷◌, ◌++◌, ◌<◌, All, codes, decimal, length}
use Rattle.std.specs.List.{concat}
use Rattle.cn_table.specs.TypeTable.{TypeTable, operation_names, transition}
use Rattle.cn_table.specs.Names.{name_at}
use Rattle.cn_log.specs.CallEnds.{EndsWithResponse}
use Rattle.cn_log.specs.declared.event.CallEnd.{CallEnd}
use Rattle.cn_log.specs.declared.event.CallEnd.TheVariants.{Answered, Full}
use Rattle.cn_log.specs.declared.entry.Entry.{Entry}
use Rattle.cn_log.specs.declared.event.Reply.{Reply}

-- the line of a call of process p that ended
abbrev pub answer_line : TypeTable → ℕ → CallEnd → List ℕ
answer_line object p (Answered reply) =
    concat (codes "answer " ∷ decimal p ∷ codes " " ∷ decimal reply.slot ∷ codes " "
    ∷ name_at object.responses reply.response.0 ∷ codes "\n" ∷ [])
answer_line object p Full = concat (codes "full " ∷ decimal p ∷ codes "\n" ∷ [])

-- the lines of calls that ended, each with its process
abbrev pub answer_lines : TypeTable → List (ℕ × CallEnd) → List ℕ
answer_lines object [] = []
answer_lines object (end ∷ ends) = answer_line object end.0 end.1 ++ answer_lines object ends

-- each response is one of the object's
abbrev pub HaveResponses : TypeTable → List (ℕ × CallEnd) → Type 0
HaveResponses object ends = All (λ end. EndsWithResponse object end.1) ends

-- the lines of the replies to the calls of process p, in order
abbrev pub reply_lines : TypeTable → ℕ → List Reply → List ℕ
reply_lines object p [] = []
reply_lines object p (reply ∷ replies) =
    answer_line object p (Answered reply) ++ reply_lines object p replies

-- the response of each reply is one of the object's
abbrev pub RepliesHaveResponses : TypeTable → List Reply → Type 0
RepliesHaveResponses object replies = All (λ r. r.response.0 < length object.responses) replies

-- the line of an entry: its slot, process and operation, the response of the object, and the state
-- after it
abbrev pub entry_line : TypeTable → ℕ → Entry → ℕ × ℕ → List ℕ
entry_line object slot e given =
    concat (codes "entry " ∷ decimal slot ∷ codes " " ∷ decimal e.process ∷ codes " "
    ∷ name_at (operation_names object) e.operation.0 ∷ codes " "
    ∷ name_at object.responses given.0 ∷ codes " " ∷ name_at object.states given.1
    ∷ codes "\n" ∷ [])

-- the lines of entries, each with its slot; the object is in this state before the first
abbrev pub entry_lines : TypeTable → ℕ → List Entry → List ℕ → List ℕ
entry_lines object state [] slots = []
entry_lines object state (e ∷ es) [] = []
entry_lines object state (e ∷ es) (slot ∷ slots) =
    entry_line object slot e (transition object e.operation.0 state)
    ++ entry_lines object (transition object e.operation.0 state).1 es slots
