-- From an open hall to the closed log.
use Rattle.std.proofs.Common.{◌≡◌, ℕ, ◌<◌, List, [], Some, Vec, All, length, get_or, refl, sym, ◌∙◌, subst, arith}
use Rattle.std.proofs.lemmas.Option.{get_or_from_slice_get, slice_get-get_or, slice_get_within}
use Rattle.std.specs.Global.{Global}
use Rattle.std.specs.List.{slice_get}
use Rattle.cn_table.proofs.Lists.{there_is}
use Rattle.cn_log.specs.Callers.{BeginsWith}
use Rattle.cn_log.specs.Log.{batches}
use Rattle.cn_log.specs.Opening.{Log, setting}
use Rattle.cn_hall.specs.Answers.{own}
use Rattle.cn_hall.specs.Rule.{Carries}
use Rattle.cn_hall.specs.declared.call.Go.{Go}
use Rattle.cn_proto.specs.Plan.{processes_of}
use Rattle.cn_hall.specs.Seats.{HallId, IsSeatOf, SeatState, seat_state, slots_seen}
use Rattle.cn_service.specs.Serving.{HasServed, replies_in}
use Rattle.cn_service.specs.Workers.{AllGatesWereAsked, EachHasOneGate, HasWorked, HaveAllWorked, MayAllWork, MayWork}
use Rattle.cn_service.specs.declared.workers.ProcessHistory.{ProcessHistory}
use Rattle.cn_service.proofs.Served.{has_served_at}

all_at : {A : Type 0} (P : A → Type 0) (xs : List A) → ((k : ℕ) (x : A) → slice_get xs k ≡ Some x → P x) → All P xs
all_at P xs h k d less = h k (get_or xs k d) (slice_get-get_or xs k d less)

at_place : {A : Type 0} (P : A → Type 0) (xs : List A) → All P xs → (k : ℕ) (x : A) → slice_get xs k ≡ Some x → P x
at_place P xs h k x at = subst P (get_or_from_slice_get xs k x x at) (h k x (slice_get_within xs k x at))

-- place p of the seats holds that of process p, over a core with a list of calls for each process
module _ (hall : HallId) (core : Log) (calls : List (Vec ℕ Global)) (before : List SeatState) (count : length before ≡ length calls)
    (opened : (p : ℕ) → p < length calls → slice_get before p ≡ Some (seat_state hall p core)) where
  seat_at : (p : ℕ) (s : SeatState) → slice_get before p ≡ Some s → s ≡ seat_state hall p core
  seat_at p s at = let same : Some s ≡ Some (seat_state hall p core) = sym at ∙ opened p (omega (arith, count, slice_get_within before p s at)) in cc

  pub may_all_work : core.schedule ≡ [] → All (λ (c : Vec ℕ Global). All (λ o. o < length core.opening.object.operations) c.items) calls → MayAllWork hall calls before
  may_all_work empty fit p c s got at =
      subst (λ (u : SeatState). MayWork hall c.items u) (sym (seat_at p s at))
      ((refl, refl), empty, at_place (λ (d : Vec ℕ Global). All (λ o. o < length core.opening.object.operations) d.items) calls fit p c got)

  -- all seats have made their calls
  module _ (after : List SeatState) (worked : List ProcessHistory) (also : length after ≡ length before) (more : length worked ≡ length before) (all : HaveAllWorked calls before after worked) where
    worked_at : (p : ℕ) (c : Vec ℕ Global) (t : SeatState) (w : ProcessHistory) → slice_get calls p ≡ Some c → slice_get after p ≡ Some t → slice_get worked p ≡ Some w
        → HasWorked c.items (seat_state hall p core) t w.replies.items w.fault
    worked_at p c t w got at_t at_w = all p c (seat_state hall p core) t w got (opened p (slice_get_within calls p c got)) at_t at_w

    worked_there : (p : ℕ) (t : SeatState) → slice_get after p ≡ Some t → (c : Vec ℕ Global) × (w : ProcessHistory) × HasWorked c.items (seat_state hall p core) t w.replies.items w.fault
    worked_there p t at =
        let less = slice_get_within after p t at in
        let c = there_is calls p (omega (arith, less, also, count)) in
        let w = there_is worked p (omega (arith, less, also, more)) in
        (c.0, w.0, worked_at p c.0 t w.0 c.1 at w.1)

    pub left_of : All (IsSeatOf hall) after
    left_of = all_at (IsSeatOf hall) after (λ p t at. let h = worked_there p t at in (h.2.same.0, h.2.same.3))

    -- the log carries the cores of all seats
    module _ (closed : Log) (carried : All (λ (t : SeatState). Carries t.process t.core closed) after) where
      pub same_opening : 0 < length calls → closed.opening ≡ core.opening
      same_opening some =
          let t = there_is after 0 (omega (arith, some, also, count)) in
          let h = worked_there 0 t.0 t.1 in
          (at_place (λ (u : SeatState). Carries u.process u.core closed) after carried 0 t.0 t.1).0 ∙ h.2.same.2

      pub serve_all : All (λ (t : SeatState). BeginsWith (batches (setting closed) closed.schedule) (slots_seen t)) after
          → All (λ (t : SeatState). BeginsWith (replies_in closed t.process) (own t)) after
          → (p : ℕ) (c : Vec ℕ Global) (w : ProcessHistory) → slice_get calls p ≡ Some c → slice_get worked p ≡ Some w → HasServed closed p c.items w.replies.items w.fault
      serve_all begins answers p c w got at =
          let t = there_is after p (omega (arith, slice_get_within worked p w at, also, more)) in
          let h = worked_at p c t.0 w got t.1 at in
          has_served_at closed c.items (seat_state hall p core) t.0 w.replies.items w.fault h (at_place (λ (u : SeatState). Carries u.process u.core closed) after carried p t.0 t.1) p h.same.1
          (at_place (λ (u : SeatState). BeginsWith (batches (setting closed) closed.schedule) (slots_seen u)) after begins p t.0 t.1)
          (at_place (λ (u : SeatState). BeginsWith (replies_in closed u.process) (own u)) after answers p t.0 t.1)

      -- and each process had the gate at its place
      pub one_gate_each : {G : Type 0} (asks : G → SeatState → ℕ → G → Type 0) (says : G → Go) (made : ℕ → G → Type 0) (gates : List G) → length gates ≡ length before
          → AllGatesWereAsked asks says before gates after worked
          → ((p : ℕ) (g : G) → slice_get gates p ≡ Some g → made p g) → core.schedule ≡ [] → processes_of closed.opening.plan ≡ length calls → EachHasOneGate asks says made closed worked
      one_gate_each asks says made gates many all made_for empty processes p less =
          let t = there_is after p (omega (arith, less, processes, also, count)) in
          let g = there_is gates p (omega (arith, less, processes, many, count)) in
          let v = there_is worked p (omega (arith, less, processes, more, count)) in
          let w = worked_there p t.0 t.1 in
          let is : t.0.process ≡ p = w.2.same.1 in (
            v.0,
            v.1,
            record {
              gate = g.0;
              before = seat_state hall p core;
              after = t.0;
              made_for = made_for p g.0 g.1;
              process = (refl, is);
              first = empty;
              carried = subst (λ q. Carries q t.0.core closed) is (at_place (λ (u : SeatState). Carries u.process u.core closed) after carried p t.0 t.1);
              asked = all p (seat_state hall p core) t.0 g.0 v.0 (opened p (omega (arith, less, processes))) g.1 t.1 v.1;
            },
          )
