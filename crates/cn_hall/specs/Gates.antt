-- The questions to a gate in a call.
use Rattle.std.specs.Prelude.{◌≡◌, ◌⊎◌, ℕ, zero, suc, List, [], ◌∷◌, ◌++◌, Some, drop, length}
use Rattle.std.specs.Prelude.{Result, Ok, Err}
use Rattle.cn_log.specs.Callers.{BeginsWith, process_of}
use Rattle.cn_log.specs.Opening.{Log}
use Rattle.cn_log.specs.OwnSteps.{steps_of}
use Rattle.cn_log.specs.declared.entry.Entry.{Entry}
use Rattle.cn_log.specs.declared.event.Event.{Event}
use Rattle.cn_hall.specs.Calls.{IsSameSeat}
use Rattle.cn_hall.specs.Seats.{SeatState, pending}
use Rattle.cn_hall.specs.declared.call.CallFault.{CallFault}
use Rattle.cn_hall.specs.declared.call.CallFault.TheVariants.{LogFull, Stopped}
use Rattle.cn_hall.specs.declared.call.Go.{Go}
use Rattle.cn_hall.specs.declared.call.Go.TheVariants.{On}
use Rattle.cn_log.specs.declared.event.Reply.{Reply}

-- the number of steps of process p in a core since an earlier core
abbrev pub steps_since : ℕ → Log → Log → ℕ
steps_since p before now = steps_of p (drop (length before.schedule) now.schedule)

-- since an earlier core no event has come, or the last one is an event of process p
abbrev pub LastIsOwn : ℕ → Log → Log → Type 0
LastIsOwn p before now = (now ≡ before)
    ⊎ ((events : List Event) × (event : Event) × (process_of event ≡ p)
    × (now.schedule ≡ events ++ event ∷ []))

-- the seat comes from the start, is in this call, and has taken k steps since, behind which no
-- event of another process stands; the call has ended in a core that goes on from the seat's
pub record HasTaken (mine : Entry) (k : ℕ) (start : SeatState) (end : Log)
    (seat : SeatState) : Type 0 where
  pub same : IsSameSeat start seat
  pub later : BeginsWith seat.core.schedule start.core.schedule
  pub history : BeginsWith end.schedule seat.core.schedule
  pub pending : pending seat ≡ Some mine
  pub steps : steps_since start.process start.core seat.core ≡ k
  pub last : LastIsOwn start.process start.core seat.core

-- the gate got k questions in the call that the seat is in and that ends in this core: about step 1
-- before the seat had taken a step, and so on, to step k before the seat had taken it; it said On
-- each time, except perhaps the last
abbrev pub IsAsked : {G : Type 0} → (G → SeatState → ℕ → G → Type 0) → (G → Go) → Entry → SeatState
    → Log → ℕ → G → G → Type 0
IsAsked asks says mine start end zero old new = new ≡ old
IsAsked {G} asks says mine start end (suc k) old new =
    (mid : G) × (seat : SeatState) × IsAsked asks says mine start end k old mid × (says mid ≡ On)
    × HasTaken mine k start end seat × asks mid seat (suc k) new

-- the number of questions of a call with this answer and this number of steps: one before each
-- step, and one more if the gate stopped it
abbrev pub asked_times : Result Reply CallFault → ℕ → ℕ
asked_times (Ok r) steps = steps
asked_times (Err LogFull) steps = steps
asked_times (Err Stopped) steps = suc steps
