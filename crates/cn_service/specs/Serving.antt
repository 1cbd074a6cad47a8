-- What the threads leave once each process has made its calls, one after the other.
use Rattle.std.specs.Prelude.{ℕ, List, [], ◌≡◌, ◌+◌, ◌<◌, length, All, None, Option, Some}
use Rattle.cn_log.specs.Callers.{calls_by, BeginsWith}
use Rattle.cn_log.specs.Log.{operations_of, batches}
use Rattle.cn_log.specs.Opening.{Log, setting}
use Rattle.cn_log.specs.declared.event.Event.{Event}
use Rattle.cn_hall.specs.Answers.{replies_from}
use Rattle.cn_hall.specs.declared.call.CallFault.{CallFault}
use Rattle.cn_hall.specs.declared.call.CallFault.TheVariants.{LogFull, Stopped}
use Rattle.cn_log.specs.declared.event.Reply.{Reply}

-- the operations of the calls that process p makes in these events, in order
abbrev pub operations_called : ℕ → List Event → List ℕ
operations_called p events = operations_of (calls_by p events)

-- for each entry of process p in the log, in order: its slot, and the response of one sequential
-- run there
abbrev pub replies_in : Log → ℕ → List Reply
replies_in core p = replies_from (setting core) p [] (batches (setting core) core.schedule)

-- how the calls of process p ended, by the fault of the one without a reply, if there is one: each
-- was made and has its reply; or some call has none, every slot is fixed, and the replies are those
-- of all entries of the process; or the process made one call more than there are replies
abbrev pub EndsIn : Log → ℕ → List ℕ → List Reply → Option CallFault → Type 0
EndsIn core p calls replies None =
    (operations_called p core.schedule ≡ calls) × (length replies ≡ length calls)
EndsIn core p calls replies (Some LogFull) = (length (batches (setting core) core.schedule)
    ≡ core.opening.capacity) × (replies ≡ replies_in core p)
    × (length replies < length calls)
EndsIn core p calls replies (Some Stopped) =
    length (operations_called p core.schedule) ≡ length replies + 1

-- process p made the first of these calls, in order; the replies are those of its first entries in
-- the log; and its calls ended so
pub record HasServed (core : Log) (p : ℕ) (calls : List ℕ) (replies : List Reply)
    (fault : Option CallFault) : Type 0 where
  pub made : BeginsWith calls (operations_called p core.schedule)
  pub replied : BeginsWith (replies_in core p) replies
  pub range : All (λ r. r.response.0 < length core.opening.object.responses) replies
  pub ended : EndsIn core p calls replies fault
