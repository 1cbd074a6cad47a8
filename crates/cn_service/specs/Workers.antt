-- What the thread of a process starts with, and what it hands back.
use Rattle.std.specs.Prelude.{◌≡◌, ℕ, ◌<◌, List, [], All, length, ◌≤◌, vec_capacity, ◌+◌, Some, Vec}
use Rattle.std.specs.Prelude.{None, Option, slice_get, Result, Ok, Err}
use Rattle.std.specs.Global.{Global}
use Rattle.cn_proto.specs.Plan.{processes_of}
use Rattle.cn_log.specs.Callers.{BeginsWith}
use Rattle.cn_log.specs.Opening.{Log}
use Rattle.cn_hall.specs.Seats.{HallId, IsSeatOf, SeatState, slots_seen}
use Rattle.cn_hall.specs.Answers.{own}
use Rattle.cn_hall.specs.Calls.{CallFails, IsReply, IsSameSeat, MakesCall, go_after, next_call}
use Rattle.cn_hall.specs.Gates.{IsAsked, asked_times, steps_since}
use Rattle.cn_hall.specs.Rule.{Carries}
use Rattle.cn_hall.specs.declared.call.CallFault.{CallFault}
use Rattle.cn_hall.specs.declared.call.CallFault.TheVariants.{LogFull, Stopped}
use Rattle.cn_log.specs.declared.event.Reply.{Reply}
use Rattle.cn_hall.specs.declared.call.Go.{Go}
use Rattle.cn_hall.specs.declared.call.Go.TheVariants.{On, Stop}
use Rattle.cn_service.specs.Serving.{operations_called}
use Rattle.cn_service.specs.declared.workers.ProcessHistory.{ProcessHistory}

-- what the gate of a process said last, by the fault of the call without a reply, if there is one
abbrev pub go_at : Option CallFault → Go
go_at None = On
go_at (Some LogFull) = On
go_at (Some Stopped) = Stop

-- the seat is one of the hall, nothing has happened in its core, and these are operations of its
-- object
abbrev pub MayWork : HallId → List ℕ → SeatState → Type 0
MayWork hall calls s = IsSeatOf hall s × (s.core.schedule ≡ [])
    × All (λ o. o < length s.core.opening.object.operations) calls

-- there is no reply yet, and room for a reply to each call
abbrev pub HasRoom : List ℕ → ProcessHistory → Type 0
HasRoom calls w = (w.replies.items ≡ []) × (length calls ≤ vec_capacity w.replies)

-- how calls leave a seat, by the fault of the call without a reply, if there is one: each was made
-- and has its reply; or some call has none, and the seat has seen every slot; or the process made
-- one call more than there are replies
abbrev pub EndsAt : List ℕ → SeatState → List Reply → Option CallFault → Type 0
EndsAt calls t replies None =
    (operations_called t.process t.core.schedule ≡ calls) × (length replies ≡ length calls)
EndsAt calls t replies (Some LogFull) =
    (length (slots_seen t) ≡ t.core.opening.capacity) × (length replies < length calls)
EndsAt calls t replies (Some Stopped) =
    length (operations_called t.process t.core.schedule) ≡ length replies + 1

-- the seat has made the first of these calls, and has these replies
pub record HasWorked (calls : List ℕ) (s t : SeatState) (replies : List Reply)
    (fault : Option CallFault) : Type 0 where
  pub same : IsSameSeat s t
  pub made : BeginsWith calls (operations_called t.process t.core.schedule)
  pub replied : own t ≡ replies
  pub range : All (λ r. r.response.0 < length t.core.opening.object.responses) replies
  pub ended : EndsAt calls t replies fault

-- the seat at each place may make the calls at its place
abbrev pub MayAllWork : HallId → List (Vec ℕ Global) → List SeatState → Type 0
MayAllWork hall calls seats = (p : ℕ) (c : Vec ℕ Global) (s : SeatState)
    → slice_get calls p ≡ Some c → slice_get seats p ≡ Some s → MayWork hall c.items s

-- at each place there is room for the replies to the calls at that place
abbrev pub HaveRoom : List (Vec ℕ Global) → List ProcessHistory → Type 0
HaveRoom calls worked = (p : ℕ) (c : Vec ℕ Global) (w : ProcessHistory) → slice_get calls p ≡ Some c
    → slice_get worked p ≡ Some w → HasRoom c.items w

-- the seat at each place has made the first of the calls at its place
abbrev pub HaveAllWorked : List (Vec ℕ Global) → List SeatState → List SeatState
    → List ProcessHistory → Type 0
HaveAllWorked calls before after worked =
    (p : ℕ) (c : Vec ℕ Global) (s t : SeatState) (w : ProcessHistory) → slice_get calls p ≡ Some c
    → slice_get before p ≡ Some s → slice_get after p ≡ Some t
    → slice_get worked p ≡ Some w
    → HasWorked c.items s t w.replies.items w.fault

-- where a call of this operation leads a seat, by its answer: it was made and has this reply, or it
-- failed so
abbrev pub ComesBy : ℕ → Result Reply CallFault → SeatState → SeatState → Type 0
ComesBy operation (Ok r) t u =
    MakesCall t.process operation t.core u.core × IsReply (next_call t operation) u r
ComesBy operation (Err e) t u = CallFails operation e t u

-- a call of this operation with a gate and this answer leads from one seat and gate to another: the
-- gate was asked before each step, as `call` does; it said Stop last if the call was stopped, and
-- else On
pub record IsCallWithGate {G : Type 0} (asks : G → SeatState → ℕ → G → Type 0) (says : G → Go)
    (operation : ℕ) (answer : Result Reply CallFault) (t : SeatState)
    (h : G) (u : SeatState) (k : G) : Type 0 where
  pub same : IsSameSeat t u
  pub comes : ComesBy operation answer t u
  pub asked : IsAsked asks says (next_call t operation) t u.core
      (asked_times answer (steps_since t.process t.core u.core)) h k
  pub said : says k ≡ go_after answer

-- where calls lead a seat and a gate, made one after the other until one has no reply, and the
-- fault of this one, if there is one; nothing else is done with the gate
pub data HasAsked {G : Type 0} (asks : G → SeatState → ℕ → G → Type 0) (says : G → Go)
    (s : SeatState) (g : G) : SeatState → G → Option CallFault → Type 0 where
  NoCall : HasAsked asks says s g s g None
  Replied : {t u : SeatState} {h k : G} (operation : ℕ) (reply : Reply)
      → HasAsked asks says s g t h None
      → IsCallWithGate asks says operation (Ok reply) t h u k
      → HasAsked asks says s g u k None
  Ended : {t u : SeatState} {h k : G} (operation : ℕ) (fault : CallFault)
      → HasAsked asks says s g t h None
      → IsCallWithGate asks says operation (Err fault) t h u k
      → HasAsked asks says s g u k (Some fault)

-- the same for a gate of the seat's thread: it said Stop last if a call was stopped, and else On
abbrev pub GateWasAsked : {G : Type 0} → (G → SeatState → ℕ → G → Type 0) → (G → Go) → SeatState → G
    → SeatState → Option CallFault → Type 0
GateWasAsked {G} asks says s g t fault =
    (last : G) × HasAsked asks says s g t last fault × (says last ≡ go_at fault)

-- the calls of the seat at each place asked the gate at its place, and ended as those at its place
abbrev pub AllGatesWereAsked : {G : Type 0} → (G → SeatState → ℕ → G → Type 0) → (G → Go)
    → List SeatState → List G → List SeatState → List ProcessHistory
    → Type 0
AllGatesWereAsked {G} asks says before gates after worked =
    (p : ℕ) (s t : SeatState) (g : G) (w : ProcessHistory) → slice_get before p ≡ Some s
    → slice_get gates p ≡ Some g → slice_get after p ≡ Some t
    → slice_get worked p ≡ Some w
    → GateWasAsked asks says s g t w.fault

-- a thread may start with this seat, this room and this gate
abbrev pub MayStart : {G : Type 0} → (G → Go) → HallId → List ℕ → SeatState → ProcessHistory → G → Type 0
MayStart says hall calls s w g = MayWork hall calls s × HasRoom calls w × (says g ≡ On)

-- what a thread that started with this seat and this gate answers: a seat, and the replies with the
-- fault of the call without one
abbrev pub IsAnswer : {G : Type 0} → (G → SeatState → ℕ → G → Type 0) → (G → Go) → List ℕ
    → SeatState → G → SeatState → ProcessHistory → Type 0
IsAnswer asks says calls s g t w =
    HasWorked calls s t w.replies.items w.fault × GateWasAsked asks says s g t w.fault

-- there are a seat, room and a gate at each place, with which a thread may start, for no more
-- processes than there are lists of calls
pub record MayAnswer {G : Type 0} (says : G → Go) (hall : HallId) (calls : List (Vec ℕ Global))
    (seats : List SeatState) (rooms : List ProcessHistory) (gates : List G) : Type 0 where
  pub may_work : MayAllWork hall calls seats
  pub few : length seats ≤ length calls
  pub have_room : HaveRoom calls rooms
  pub room_count : length rooms ≡ length seats
  pub all_on : All (λ g. says g ≡ On) gates
  pub gate_count : length gates ≡ length seats

-- the vector has as many items as the other one, and as much room
abbrev pub IsAsLarge : {A : Type 0} → Vec A Global → Vec A Global → Type 0
IsAsLarge u v = (length v.items ≡ length u.items) × (vec_capacity v ≡ vec_capacity u)

-- what the threads of all places answer, from these seats, this room and these gates
pub record HaveAnswered {G : Type 0} (asks : G → SeatState → ℕ → G → Type 0) (says : G → Go)
    (calls : List (Vec ℕ Global)) (seats : Vec SeatState Global)
    (rooms : Vec ProcessHistory Global) (gates : List G) (after : Vec SeatState Global)
    (worked : Vec ProcessHistory Global) : Type 0 where
  pub seat_count : IsAsLarge seats after
  pub room_count : IsAsLarge rooms worked
  pub have_worked : HaveAllWorked calls seats.items after.items worked.items
  pub were_asked : AllGatesWereAsked asks says seats.items gates after.items worked.items

-- all that process p did in the log is in calls with one gate, which was made for it, and the call
-- without a reply, if there is one, has this fault
pub record HasOneGate {G : Type 0} (asks : G → SeatState → ℕ → G → Type 0) (says : G → Go)
    (made : ℕ → G → Type 0) (core : Log) (p : ℕ) (fault : Option CallFault)
    : Type 0 where
  pub gate : G
  pub before : SeatState
  pub after : SeatState
  pub made_for : made p gate
  pub process : (before.process ≡ p) × (after.process ≡ p)
  pub first : before.core.schedule ≡ []
  pub carried : Carries p after.core core
  pub asked : GateWasAsked asks says before gate after fault

-- each process of the log's plan has one gate; place p of the list has the fault of process p's call
-- without a reply, if there is one
abbrev pub EachHasOneGate : {G : Type 0} → (G → SeatState → ℕ → G → Type 0) → (G → Go)
    → (ℕ → G → Type 0) → Log → List ProcessHistory → Type 0
EachHasOneGate asks says made core worked =
    (p : ℕ) → p < processes_of core.opening.plan
    → (w : ProcessHistory) × (slice_get worked p ≡ Some w) × HasOneGate asks says made core p w.fault
