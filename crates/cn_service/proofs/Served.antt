-- From seats that made calls to the log.
use Rattle.std.proofs.Common.{◌≡◌, ℕ, zero, suc, ◌≤◌, ◌<◌, List, [], ◌∷◌, ◌++◌, Option, Some, None, All, length, sym, ap, ◌∙◌, append-nil, length-append, subst, arith}
use Rattle.cn_log.specs.Callers.{BeginsWith}
use Rattle.cn_log.specs.Log.{Setting, batches, fixed_from, state_of, up_to_open}
use Rattle.cn_log.specs.Opening.{Log, Opening, setting, setting_of}
use Rattle.cn_log.specs.declared.batch.Batch.{Batch}
use Rattle.cn_hall.specs.Answers.{own, replies_from}
use Rattle.cn_hall.specs.Rule.{Carries}
use Rattle.cn_hall.specs.Seats.{SeatState, slots_seen}
use Rattle.cn_hall.specs.declared.call.CallFault.{CallFault}
use Rattle.cn_hall.specs.declared.call.CallFault.TheVariants.{LogFull, Stopped}
use Rattle.cn_log.specs.declared.event.Reply.{Reply}
use Rattle.cn_service.specs.Serving.{EndsIn, HasServed, operations_called, replies_in}
use Rattle.cn_service.specs.Workers.{EndsAt, HasWorked}
use Rattle.cn_service.proofs.CallLists.{invoked_carried}

-- at most as many slots are fixed as there are
fixed_within : {R : Type 0} (L : Setting R) (slots k : ℕ) (round : ℕ → R) → length (fixed_from L slots k round) ≤ slots
fixed_within L zero k round = omega arith
fixed_within L (suc slots) k round = by_slot (L.consensus.fixed (round k)) (fixed_from L slots (suc k) round) (fixed_within L slots (suc k) round)
  where
    by_slot : (o : Option Batch) (rest : List Batch) → length rest ≤ slots → length (up_to_open o rest) ≤ suc slots
    by_slot None rest h = omega arith
    by_slot (Some e) rest h = omega (arith, h)

batches_within : (core : Log) → length (batches (setting core) core.schedule) ≤ core.opening.capacity
batches_within core = fixed_within (setting core) core.opening.capacity 0 (state_of (setting core) core.schedule).round

-- a list that begins with one of its length is that one
whole_front : {A : Type 0} (list front : List A) → BeginsWith list front → length list ≤ length front → list ≡ front
whole_front {A} list front begins h = by_rest begins.0 begins.1
  where
    by_rest : (rest : List A) → list ≡ front ++ rest → list ≡ front
    by_rest [] e = e ∙ append-nil front
    by_rest (x ∷ rest) e = absurd (omega (arith, h, ap length e, length-append front (x ∷ rest)))

-- what a seat leaves holds in a log that carries its core
module _ (core : Log) (calls : List ℕ) (s t : SeatState) (replies : List Reply) (fault : Option CallFault) (worked : HasWorked calls s t replies fault) (carried : Carries t.process t.core core) where
  same_calls : operations_called t.process core.schedule ≡ operations_called t.process t.core.schedule
  same_calls = invoked_carried t.process t.core core carried

  -- a seat that has seen every slot has seen the batches of the log
  saw_all : BeginsWith (batches (setting core) core.schedule) (slots_seen t) → length (slots_seen t) ≡ t.core.opening.capacity → batches (setting core) core.schedule ≡ slots_seen t
  saw_all begins full = whole_front (batches (setting core) core.schedule) (slots_seen t) begins (omega (arith, batches_within core, full, ap (λ (o : Opening). o.capacity) carried.0))

  ends_in : BeginsWith (batches (setting core) core.schedule) (slots_seen t) → (e : Option CallFault) → EndsAt calls t replies e → EndsIn core t.process calls replies e
  ends_in begins None h = (same_calls ∙ h.0, h.1)
  ends_in begins (Some LogFull) h =
      let all = saw_all begins h.0 in (
        ap length all ∙ h.0 ∙ sym (ap (λ (o : Opening). o.capacity) carried.0),
        sym worked.replied ∙ (λ i. replies_from (setting_of (sym carried.0 i)) t.process [] (sym all i)),
        h.1,
      )
  ends_in begins (Some Stopped) h = ap length same_calls ∙ h

  has_served : BeginsWith (batches (setting core) core.schedule) (slots_seen t) → BeginsWith (replies_in core t.process) (own t) → HasServed core t.process calls replies fault
  has_served begins answers = record {
    made = (worked.made.0, worked.made.1 ∙ ap (λ l. l ++ worked.made.0) (sym same_calls));
    replied = subst (λ (l : List Reply). BeginsWith (replies_in core t.process) l) worked.replied answers;
    range = subst (λ (o : Opening). All (λ (r : Reply). r.response.0 < length o.object.responses) replies) (sym carried.0) worked.range;
    ended = ends_in begins fault worked.ended;
  }

  pub has_served_at : (p : ℕ) → t.process ≡ p → BeginsWith (batches (setting core) core.schedule) (slots_seen t) → BeginsWith (replies_in core t.process) (own t) → HasServed core p calls replies fault
  has_served_at p is begins answers = subst (λ q. HasServed core q calls replies fault) is (has_served begins answers)
