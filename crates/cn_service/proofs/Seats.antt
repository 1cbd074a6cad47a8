-- Seats that make calls.
use Rattle.std.proofs.Common.{◌≡◌, ◌⊎◌, inl, inr, ℕ, ◌+◌, ◌<◌, List, [], ◌∷◌, ◌++◌, length, take, drop, Err, Some, refl, sym, ap, ◌∙◌, subst, arith}
use Rattle.std.proofs.lemmas.List.{length-take-le, take-append-drop}
use Rattle.cn_log.specs.Callers.{BeginsWith}
use Rattle.cn_hall.specs.Calls.{CallFails, MakesCall, IsSameSeat, go_after}
use Rattle.cn_hall.specs.Seats.{SeatState}
use Rattle.cn_hall.specs.declared.call.CallFault.{CallFault}
use Rattle.cn_hall.specs.declared.call.CallFault.TheVariants.{LogFull, Stopped}
use Rattle.cn_log.specs.declared.event.Reply.{Reply}
use Rattle.cn_service.specs.Serving.{operations_called}
use Rattle.cn_service.specs.Workers.{EndsAt, go_at}
use Rattle.cn_service.proofs.CallLists.{invoked_called}

-- the calls made are the first i of the list
abbrev pub HasMade : List ℕ → SeatState → ℕ → Type 0
HasMade calls s i = operations_called s.process s.core.schedule ≡ take i calls

begins_taken : (calls : List ℕ) (s : SeatState) (i : ℕ) → HasMade calls s i → BeginsWith calls (operations_called s.process s.core.schedule)
begins_taken calls s i made = (drop i calls, sym (take-append-drop i calls) ∙ ap (λ l. l ++ drop i calls) (sym made))

-- a call without a reply ends the calls by what the gate said
pub go_ended : (fault : CallFault) → go_after (Err fault) ≡ go_at (Some fault)
go_ended LogFull = refl
go_ended Stopped = refl

-- a call without a reply was made, or the seat is as it was
made_or_not : (operation : ℕ) (s t : SeatState) (fault : CallFault) → CallFails operation fault s t → (t ≡ s) ⊎ MakesCall s.process operation s.core t.core
made_or_not operation s t LogFull h = elim h.2 [
  | inl is ↦ inl is
  | inr made ↦ inr made.0
]
made_or_not operation s t Stopped h = inr h.0

-- after the first i calls of the list, the seat makes the next
module _ (calls : List ℕ) (i operation : ℕ) (more : take (i + 1) calls ≡ take i calls ++ operation ∷ []) (s t : SeatState) (same : IsSameSeat s t) (made : HasMade calls s i) where
  pub one_more : MakesCall s.process operation s.core t.core → HasMade calls t (i + 1)
  one_more called = ap (λ p. operations_called p t.core.schedule) same.1 ∙ invoked_called s.process operation s.core t.core called ∙ ap (λ l. l ++ operation ∷ []) made ∙ sym more

  none_more : t ≡ s → HasMade calls t i
  none_more is = subst (λ (u : SeatState). HasMade calls u i) (sym is) made

  begins_once : (t ≡ s) ⊎ MakesCall s.process operation s.core t.core → BeginsWith calls (operations_called t.process t.core.schedule)
  begins_once (inl is) = begins_taken calls t i (none_more is)
  begins_once (inr called) = begins_taken calls t (i + 1) (one_more called)

  -- after a call without a reply, the calls made are the first of the list
  pub begins_left : (fault : CallFault) → CallFails operation fault s t → BeginsWith calls (operations_called t.process t.core.schedule)
  begins_left fault h = begins_once (made_or_not operation s t fault h)

  -- and they ended so
  pub ends_left : i < length calls → (replies : List Reply) → length replies ≡ i → (fault : CallFault) → CallFails operation fault s t → EndsAt calls t replies (Some fault)
  ends_left less replies count LogFull h = (h.0.1, omega (arith, less, count))
  ends_left less replies count Stopped h = ap length (one_more h.0) ∙ length-take-le (i + 1) calls (omega (arith, less)) ∙ ap (λ n. n + 1) (sym count)
