-- A call is over within a bounded number of steps of its process, and a log has room for all its events.
use Rattle.std.proofs.Common.{ℕ, zero, suc, ◌≡◌, ◌⊎◌, inl, inr, true, ◌+◌, ◌-◌, ◌*◌, ◌<◌, ◌≤◌, ◌==◌, List, [], ◌∷◌, ◌++◌, length, take, drop, slice_get, Some, refl, sym, ap, ◌∙◌, subst, arith, cond}
use Rattle.std.proofs.lemmas.Bool.{cases_eq}
use Rattle.std.proofs.lemmas.Bool.Decides.{nat_tests}
use Rattle.std.proofs.lemmas.List.{take-append-drop}
use Rattle.cn_log.specs.declared.entry.Entry.{Entry}
use Rattle.cn_log.specs.declared.event.Event.{Event}
use Rattle.cn_log.specs.declared.event.Event.TheVariants.{Invoke, Step}
use Rattle.cn_log.specs.declared.event.StepAnswer.{StepAnswer}
use Rattle.cn_log.specs.declared.event.StepAnswer.TheVariants.{Working, Answered, Full}
use Rattle.cn_log.specs.declared.caller_state.Phase.TheVariants.{Idle}
use Rattle.cn_log.specs.Agreement.{RoundsAgree}
use Rattle.cn_log.specs.Bypass.{fixed_before}
use Rattle.cn_log.specs.Callers.{process_of, pending_in, caller_of, call_of, IsStepped}
use Rattle.cn_log.specs.Linearized.{calls_of, IsCall}
use Rattle.cn_log.specs.Log.{Setting, World, Caller, first_world, state_of, batches, answer, IsEventList}
use Rattle.cn_log.specs.OwnSteps.{is_step_of, steps_of, steps_between, replayed_before, IsOver}
use Rattle.cn_log.proofs.ListLemmas.EventLists.{get_take, take_take, run_append}
use Rattle.cn_log.proofs.CallerLemmas.Knowledge.{other_event, pending, stepped, number, invoked}
use Rattle.cn_log.proofs.InvariantLemmas.Linearization.{prefix_may, event_may}
use Rattle.cn_log.proofs.ListLemmas.Places.{get_low, there_is}
use Rattle.cn_log.proofs.BoundLemmas.Progress.{ends_in_time, k_low}
use Rattle.cn_log.proofs.ListLemmas.OwnLists.{not_idle, steps_cons}

take_next : {A : Type 0} (xs : List A) (i : ℕ) (x : A) → slice_get xs i ≡ Some x → take (suc i) xs ≡ take i xs ++ x ∷ []
take_next [] i x h = absurd cc
take_next (y ∷ xs) zero x h = let e : y ≡ x = cc in ap (λ z. z ∷ []) e
take_next (y ∷ xs) (suc i) x h = ap (λ ys. y ∷ ys) (take_next xs i x h)

steps_take : (p : ℕ) (events : List Event) (j : ℕ) (e : Event) → slice_get events j ≡ Some e → steps_of p (take (suc j) events) ≡ steps_of p (take j events) + cond (is_step_of p e) 1 0
steps_take p [] j e h = absurd cc
steps_take p (x ∷ events) zero e h = let same : x ≡ e = cc in let a = steps_cons p x [] in let b = ap {B = ℕ} (λ z. cond (is_step_of p z) 1 0) same in omega (arith, a, b)
steps_take p (x ∷ events) (suc j) e h = let a = steps_cons p x (take (suc j) events) in let b = steps_cons p x (take j events) in let c = steps_take p events j e h in omega (arith, a, b, c)

between_next : (p : ℕ) (events : List Event) (i j : ℕ) (e : Event) → i < j → slice_get events j ≡ Some e → steps_between p events i (suc j) ≡ steps_between p events i j + cond (is_step_of p e) 1 0
between_next p [] i j e less h = absurd cc
between_next p (x ∷ events) i zero e less h = absurd (omega arith)
between_next p (x ∷ events) zero (suc j) e less h = steps_take p events j e h
between_next p (x ∷ events) (suc i) (suc j) e less h = between_next p events i j e (omega arith) h

module _ {R : Type 0} (L : Setting R) (Good : R → Type 0) (agrees : RoundsAgree L Good) where
  -- a call that is still pending has had fewer steps than the bound
  still : (events : List Event) (may : IsEventList L events) (i : ℕ) (e : Entry) → IsCall events i e → pending_in (caller_of L events e.process).phase ≡ Some e
      → steps_of e.process (drop (suc i) events) < (fixed_before L events i + 2 - replayed_before L events i e.process) * (5 * L.processes - 4)
  still events may i e c is =
      let h = ends_in_time L Good agrees events may i e c is in
      let k = k_low L Good agrees events may i e c is in
      let d : steps_of e.process (drop i events) ≡ steps_of e.process (drop (suc i) events) = drops events i c.invoke in
      let m : fixed_before L events i - replayed_before L events i e.process + 2 ≡ fixed_before L events i + 2 - replayed_before L events i e.process = omega (arith, k) in
      subst (λ z. steps_of e.process (drop (suc i) events) < z * (5 * L.processes - 4)) m (omega (arith, h, d))
    where
      drops : (xs : List Event) (j : ℕ) → slice_get xs j ≡ Some (Invoke e.process e.operation.0) → steps_of e.process (drop j xs) ≡ steps_of e.process (drop (suc j) xs)
      drops [] j h = absurd (cc h)
      drops (x ∷ xs) zero h = let same : x ≡ Invoke e.process e.operation.0 = cc in ap (λ z. steps_of e.process (z ∷ xs)) same
          ∙ (let n : steps_of e.process (Invoke e.process e.operation.0 ∷ xs) ≡ 0 + steps_of e.process xs = steps_cons e.process (Invoke e.process e.operation.0) xs in omega (arith, n))
      drops (x ∷ xs) (suc j) h = drops xs j h

  -- if a process takes enough steps, its call is over
  module _ (events : List Event) (may : IsEventList L events) (i : ℕ) (e : Entry) (c : IsCall events i e) where
    abbrev enough : ℕ
    enough = (fixed_before L events i + 2 - replayed_before L events i e.process) * (5 * L.processes - 4)

    may_front : (j : ℕ) → IsEventList L (take j events)
    may_front j = prefix_may L Good agrees (take j events) (drop j events) (rw (take-append-drop j events) may)

    call_front : (j : ℕ) → i < j → IsCall (take j events) i e
    call_front j less = record { invoke = get_take events j i less ∙ c.invoke; number = c.number ∙ ap (calls_of e.process) (sym (take_take events j i (omega arith))) }

    still_front : (j : ℕ) → i < j → pending_in (caller_of L (take j events) e.process).phase ≡ Some e → steps_between e.process events i j < enough
    still_front j less is = subst (λ (front : List Event). steps_between e.process events i j < (length (batches L front) + 2 - length (caller_of L front e.process).seen) * (5 * L.processes - 4))
        (take_take events j i (omega arith)) (still (take j events) (may_front j) i e (call_front j less) is)

    -- the call is over within enough steps
    abbrev Over : Type 0
    Over = (j : ℕ) × IsOver L events j e × (steps_between e.process events i (suc j) ≤ enough)

    -- after event j the call is pending, or it is over
    next_event : (j : ℕ) (event : Event) → i < j → slice_get events j ≡ Some event → pending_in (caller_of L (take j events) e.process).phase ≡ Some e
        → (pending_in (caller_of L (take (suc j) events) e.process).phase ≡ Some e) ⊎ Over
    next_event j event less at is = elim (cases_eq (process_of event) e.process) [
      | inl mine ↦ own_event event mine at
      | inr other ↦ inl (ap (λ (front : List Event). pending_in (caller_of L front e.process).phase) (take_next events j event at)
          ∙ ap (λ (w : World R). pending_in (w.caller e.process).phase) (run_append L (take j events) (event ∷ []) (first_world L))
          ∙ ap (λ (here : Caller). pending_in here.phase) (other_event L (state_of L (take j events)) event e.process other) ∙ is)
    ]
      where
        answered : (a : StepAnswer) → slice_get events j ≡ Some (Step e.process) → answer L (take j events) e.process ≡ a
            → IsStepped L e.process (caller_of L (take j events) e.process) e (caller_of L (take (suc j) events) e.process) a
            → (pending_in (caller_of L (take (suc j) events) e.process).phase ≡ Some e) ⊎ Over
        answered a step given stepped = by a given stepped
          where
            last : calls_of e.process (take j events) ≡ e.call + 1
            last = sym (pending L Good agrees (take j events) e.process (may_front j) e is).last

            few : steps_between e.process events i (suc j) ≤ enough
            few =
                let one = between_next e.process events i j (Step e.process) less step in
                let own : (e.process == e.process) ≡ true = grind (arith, nat_tests) in
                let is_one = ap {B = ℕ} (λ b. cond b 1 0) own in
                let before = still_front j less is in
                omega (arith, one, is_one, before)

            by : (a : StepAnswer) → answer L (take j events) e.process ≡ a → IsStepped L e.process (caller_of L (take j events) e.process) e (caller_of L (take (suc j) events) e.process) a
                → (pending_in (caller_of L (take (suc j) events) e.process).phase ≡ Some e) ⊎ Over
            by Working given goes = inl goes.pending
            by (Answered slot response) given goes = inr (j, inl (slot, response.0, record { step = record { call = i; before = less; is = c; last = last; step = step }; answers = given }), few)
            by Full given goes = inr (j, inr (record { step = record { call = i; before = less; is = c; last = last; step = step }; answers = given }), few)

        own_event : (event : Event) → process_of event ≡ e.process → slice_get events j ≡ Some event → (pending_in (caller_of L (take (suc j) events) e.process).phase ≡ Some e) ⊎ Over
        own_event (Invoke q operation) mine at = absurd (not_idle (caller_of L (take j events) e.process).phase is
            (subst (λ (p : ℕ). (caller_of L (take j events) p).phase ≡ Idle) mine (event_may L Good agrees events may j (Invoke q operation) at).idle))
        own_event (Step q) mine at =
            let step : slice_get events j ≡ Some (Step e.process) = at ∙ ap (λ (p : ℕ). Some (Step p)) mine in
            let next : take (suc j) events ≡ take j events ++ Step e.process ∷ [] = take_next events j (Step e.process) step in
            answered (answer L (take j events) e.process) step refl
            (subst (λ (front : List Event). IsStepped L e.process (caller_of L (take j events) e.process) e (caller_of L front e.process) (answer L (take j events) e.process)) (sym next)
            (stepped L Good agrees (take j events) e.process (subst (IsEventList L) next (may_front (suc j))) e is))

    search_over : (m j : ℕ) → j + m ≡ length events → i < j → pending_in (caller_of L (take j events) e.process).phase ≡ Some e → enough ≤ steps_between e.process events i (length events) → Over
    search_over zero j end less is late =
        let here : j ≡ length events = omega (arith, end) in
        let early = still_front j less is in
        let same = ap (λ k. steps_between e.process events i k) here in
        absurd (omega (arith, early, same, late))
    search_over (suc m) j end less is late =
        let x = there_is events j (omega (arith, end)) in
        elim (next_event j x.0 less x.1 is) [
          | inl on ↦ search_over m (suc j) (omega (arith, end)) (omega (arith, less)) on late
          | inr over ↦ over
        ]

    called_pending : pending_in (caller_of L (take (suc i) events) e.process).phase ≡ Some e
    called_pending =
        let here = invoked L (take i events) e.process e.operation.0 in
        let counted : (caller_of L (take i events) e.process).calls ≡ e.call = number L (take i events) e.process ∙ sym c.number in
        ap (λ (front : List Event). pending_in (caller_of L front e.process).phase) (take_next events i _ c.invoke) ∙ ap (λ (k : Caller). pending_in k.phase) here
        ∙ ap (λ k. Some (call_of e.process e.operation.0 k)) counted

    pub over : enough ≤ steps_between e.process events i (length events) → Over
    over late =
        let low : i < length events = get_low events i _ c.invoke in
        search_over (length events - suc i) (suc i) (omega (arith, low)) (omega arith) called_pending late
