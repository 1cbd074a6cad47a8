-- The calls of a process, answered or not.
use Rattle.std.proofs.Common.{ℕ, suc, ◌≡◌, ◌≢◌, ◌⊎◌, inl, inr, Bool, true, false, ◌+◌, ◌<◌, ◌≤◌, ◌==◌, List, [], ◌∷◌, ◌++◌, length, take, slice_get, Option, Some, None, refl, sym, ap, ◌∙◌, subst, arith, append-nil, append_assoc, length-append}
use Rattle.std.proofs.lemmas.Bool.{cases_eq}
use Rattle.std.proofs.lemmas.Bool.Decides.{nat_tests}
use Rattle.std.proofs.lemmas.List.Elements.{filter-append}
use Rattle.cn_log.specs.declared.batch.Batch.{Batch}
use Rattle.cn_log.specs.declared.entry.Entry.{Entry}
use Rattle.cn_log.specs.Batches.{HoldsEntry, members, entries_in}
use Rattle.cn_log.specs.declared.event.Event.{Event}
use Rattle.cn_log.specs.declared.event.Event.TheVariants.{Invoke, Step}
use Rattle.cn_log.specs.declared.event.StepAnswer.{StepAnswer}
use Rattle.cn_log.specs.declared.event.StepAnswer.TheVariants.{Working, Answered, Full}
use Rattle.cn_log.specs.declared.caller_state.Phase.{Phase}
use Rattle.cn_log.specs.declared.caller_state.Phase.TheVariants.{Idle, Looks, Runs}
use Rattle.cn_log.specs.Agreement.{RoundsAgree}
use Rattle.cn_log.specs.Callers.{BeginsWith, seen_of, HasNoEventOf, pending_in, call_of, calls_from, calls_by, entries_by, caller_of, SeesOther, IsStepped, IsUnanswered, HasReplayedItsOwn, HasReplayedBy}
use Rattle.cn_log.specs.Linearized.{calls_of}
use Rattle.cn_log.specs.Log.{Setting, World, Caller, IsEventList, MayInvoke, MayStep, MayAllCome, batches, entries, answer, first_world, state_of}
use Rattle.cn_log.proofs.ListLemmas.EntryLists.{entries_few}
use Rattle.cn_log.proofs.ListLemmas.EventLists.{calls_cons, may_right}
use Rattle.cn_log.proofs.InvariantLemmas.Invariant.{IsMine, IsBegun, fixed_begun}
use Rattle.cn_log.proofs.CallerLemmas.Knowledge.{stays, invoked, number, replayed, replayed_batches, stepped}
use Rattle.cn_log.proofs.InvariantLemmas.Linearization.{facts_after, holds_after, prefix_may, there_of, stands_there, one_place}
use Rattle.cn_table.proofs.Lists.{get_front}
use Rattle.cn_log.proofs.ListLemmas.EntryPositions.{entries_put, in_entries, get_right}
use Rattle.cn_log.proofs.ListLemmas.Places.{get_low}

-- the calls in a longer list are those in its front, then those in the rest
calls_join : (p k : ℕ) (before rest : List Event) → calls_from p k (before ++ rest) ≡ calls_from p k before ++ calls_from p (k + calls_of p before) rest
calls_join p k [] rest = let none : calls_of p [] ≡ 0 = refl in let e : k + calls_of p [] ≡ k = omega (arith, none) in ap (λ i. calls_from p i rest) (sym e)
calls_join p k (Step q ∷ before) rest = let count = calls_cons p (Step q) before in let e : k + calls_of p before ≡ k + calls_of p (Step q ∷ before) = omega (arith, count) in
    calls_join p k before rest
    ∙ ap (λ i. calls_from p k before ++ calls_from p i rest) e
calls_join p k (Invoke q operation ∷ before) rest = go (k + calls_of p (Invoke q operation ∷ before)) refl (q == p) refl (λ i. calls_join p i before rest)
  where
    go : (n : ℕ) → k + calls_of p (Invoke q operation ∷ before) ≡ n → (own : Bool) → (q == p) ≡ own
        → ((i : ℕ) → calls_from p i (before ++ rest) ≡ calls_from p i before ++ calls_from p (i + calls_of p before) rest)
        → calls_from p k ((Invoke q operation ∷ before) ++ rest) ≡ calls_from p k (Invoke q operation ∷ before) ++ calls_from p n rest
    go n number true is join =
        let count : calls_of p (Invoke q operation ∷ before) ≡ 1 + calls_of p before = calls_cons p (Invoke q operation) before ∙ (rw is refl) in
        let e : (k + 1) + calls_of p before ≡ n = omega (arith, count, number) in
        rw is (ap (λ l. call_of p operation k ∷ l) (join (k + 1) ∙ ap (λ i. calls_from p (k + 1) before ++ calls_from p i rest) e))
    go n number false is join =
        let count : calls_of p (Invoke q operation ∷ before) ≡ 0 + calls_of p before = calls_cons p (Invoke q operation) before ∙ (rw is refl) in
        let e : k + calls_of p before ≡ n = omega (arith, count, number) in
        rw is (join k ∙ ap (λ i. calls_from p k before ++ calls_from p i rest) e)

pub calls_grow : (p : ℕ) (before rest : List Event) → BeginsWith (calls_by p (before ++ rest)) (calls_by p before)
calls_grow p before rest = (calls_from p (0 + calls_of p before) rest, calls_join p 0 before rest)

no_calls : (p k : ℕ) (events : List Event) → HasNoEventOf p events → calls_from p k events ≡ []
no_calls p k [] h = refl
no_calls p k (Step q ∷ events) h = no_calls p k events h.1
no_calls p k (Invoke q operation ∷ events) h = let ne = h.0 in let t : (q == p) ≡ false = grind (arith, nat_tests) in rw t (no_calls p k events h.1)

pub calls_stay : (p : ℕ) (before rest : List Event) → HasNoEventOf p rest → calls_by p (before ++ rest) ≡ calls_by p before
calls_stay p before rest h = calls_join p 0 before rest ∙ ap (λ l. calls_by p before ++ l) (no_calls p (0 + calls_of p before) rest h) ∙ append-nil (calls_by p before)

step_calls : (p : ℕ) (events : List Event) → calls_by p (events ++ Step p ∷ []) ≡ calls_by p events
step_calls p events = calls_join p 0 events (Step p ∷ []) ∙ append-nil (calls_by p events)

one_call : (p k operation : ℕ) → calls_from p k (Invoke p operation ∷ []) ≡ call_of p operation k ∷ []
one_call p k operation = let t : (p == p) ≡ true = grind (arith, nat_tests) in rw t refl

pub by_append : (p : ℕ) (xs ys : List Entry) → entries_by p (xs ++ ys) ≡ entries_by p xs ++ entries_by p ys
by_append p xs ys = filter-append (λ (e : Entry). e.process == p) xs ys

-- the entries of a process with one more batch
pub push_batch : (n p : ℕ) (seen : List Batch) (x : Batch) → entries_by p (entries_in n (seen ++ x ∷ [])) ≡ entries_by p (entries_in n seen) ++ entries_by p (members n 0 x)
push_batch n p seen x = ap (entries_by p) (entries_put n seen (x ∷ []) ∙ ap (λ l. entries_in n seen ++ l) (append-nil (members n 0 x))) ∙ by_append p (entries_in n seen) (members n 0 x)

none_by : (p : ℕ) (xs : List Entry) → ((k : ℕ) (x : Entry) → slice_get xs k ≡ Some x → x.process ≢ p) → entries_by p xs ≡ []
none_by p [] h = refl
none_by p (x ∷ xs) h = let ne = h 0 x refl in let t : (x.process == p) ≡ false = grind (arith, nat_tests) in rw t (none_by p xs (λ k y at. h (suc k) y at))

-- the entries of the process, if only one entry of it can be there, at one place
one_by : (p : ℕ) (mine : Entry) (xs : List Entry) → ((k : ℕ) (x : Entry) → slice_get xs k ≡ Some x → x.process ≡ p → x ≡ mine)
    → ((j k : ℕ) → slice_get xs j ≡ Some mine → slice_get xs k ≡ Some mine → j ≡ k)
    → (entries_by p xs ≡ []) ⊎ (entries_by p xs ≡ mine ∷ [])
one_by p mine [] h once = inl refl
one_by p mine (x ∷ xs) h once = go (x.process == p) refl (one_by p mine xs (λ k y at own. h (suc k) y at own) (λ j k a b. (let e = once (suc j) (suc k) a b in omega (arith, e))))
  where
    away : x ≡ mine → (k : ℕ) (y : Entry) → slice_get xs k ≡ Some y → y.process ≢ p
    away same k y at own = let again = once 0 (suc k) (ap Some same) (at ∙ ap Some (h (suc k) y at own)) in absurd (omega (arith, again))

    go : (own : Bool) → (x.process == p) ≡ own → (entries_by p xs ≡ []) ⊎ (entries_by p xs ≡ mine ∷ []) → (entries_by p (x ∷ xs) ≡ []) ⊎ (entries_by p (x ∷ xs) ≡ mine ∷ [])
    go true is rest =
        let own : x.process ≡ p = grind (arith, nat_tests) in
        let same = h 0 x refl own in
        inr (rw is (ap (λ l. x ∷ l) (none_by p xs (away same)) ∙ ap (λ (z : Entry). z ∷ []) same))
    go false is rest = rw is rest

in_call : (ph : Phase) → ph ≢ Idle → (mine : Entry) × (pending_in ph ≡ Some mine)
in_call Idle h = absurd (h refl)
in_call (Looks mine i batch) h = (mine, refl)
in_call (Runs mine) h = (mine, refl)

module _ {R : Type 0} (L : Setting R) where
  pub called : (events : List Event) (p operation : ℕ) → calls_by p (events ++ Invoke p operation ∷ []) ≡ calls_by p events ++ call_of p operation (caller_of L events p).calls ∷ []
  called events p operation =
      let n : 0 + calls_of p events ≡ (caller_of L events p).calls = omega (arith, number L events p) in
      calls_join p 0 events (Invoke p operation ∷ []) ∙ ap (λ l. calls_by p events ++ l) (one_call p (0 + calls_of p events) operation) ∙ ap (λ k. calls_by p events ++ call_of p operation k ∷ []) n

  unanswered_one : (here : Caller) (ph : Phase) (mine : Entry) (rest : List Entry) → pending_in ph ≡ Some mine → IsUnanswered L here ph rest → rest ≡ mine ∷ []
  unanswered_one here Idle mine rest is h = absurd (cc)
  unanswered_one here (Looks m i batch) mine rest is h = let same : m ≡ mine = cc in h ∙ ap (λ (z : Entry). z ∷ []) same
  unanswered_one here (Runs m) mine rest is h = let same : m ≡ mine = cc in h ∙ ap (λ (z : Entry). z ∷ []) same

  one_unanswered : (here : Caller) (ph : Phase) (mine : Entry) → pending_in ph ≡ Some mine → IsUnanswered L here ph (mine ∷ [])
  one_unanswered here Idle mine is = absurd (cc)
  one_unanswered here (Looks m i batch) mine is = let same : m ≡ mine = cc in ap (λ (z : Entry). z ∷ []) (sym same)
  one_unanswered here (Runs m) mine is = let same : m ≡ mine = cc in ap (λ (z : Entry). z ∷ []) (sym same)

  unanswered_none : (here : Caller) (ph : Phase) (rest : List Entry) → ph ≡ Idle → length here.seen < L.capacity → IsUnanswered L here ph rest → rest ≡ []
  unanswered_none here Idle rest is room (inl none) = none
  unanswered_none here Idle rest is room (inr one) = let all = one.0 in absurd (omega (arith, all, room))
  unanswered_none here (Looks m i batch) rest is room h = absurd (cc)
  unanswered_none here (Runs m) rest is room h = absurd (cc)

  idle_unanswered : (here : Caller) (ph : Phase) (rest : List Entry) → ph ≡ Idle → IsUnanswered L here Idle rest → IsUnanswered L here ph rest
  idle_unanswered here ph rest is h = subst (λ (z : Phase). IsUnanswered L here z rest) (sym is) h

module _ {R : Type 0} (L : Setting R) (Good : R → Type 0) (agrees : RoundsAgree L Good) (p : ℕ) where
  abbrev Own : List Event → Type 0
  Own events = HasReplayedItsOwn L events p

  own_other : (events rest : List Event) → HasNoEventOf p rest → Own events → Own (events ++ rest)
  own_other events rest h own =
      let same = stays L events rest p h in
      let calls = calls_stay p events rest h in
      (own.0, calls ∙ own.1 ∙ ap (λ (c : Caller). entries_by p (entries_in L.processes c.seen) ++ own.0) (sym same), subst (λ (c : Caller). IsUnanswered L c c.phase own.0) (sym same) own.2)

  own_invoke : (events : List Event) (operation : ℕ) → MayInvoke L (state_of L events) p operation → Own events → Own (events ++ Invoke p operation ∷ [])
  own_invoke events operation may own =
      let here : Caller = caller_of L events p in
      let mine : Entry = call_of p operation here.calls in
      let now = invoked L events p operation in
      let none = unanswered_none L here here.phase own.0 may.idle may.not_at_end own.2 in
      let before : calls_by p events ≡ entries_by p (entries_in L.processes here.seen) = own.1 ∙ ap (λ l. entries_by p (entries_in L.processes here.seen) ++ l) none
      ∙ append-nil (entries_by p (entries_in L.processes here.seen)) in (
        mine ∷ [],
        called L events p operation ∙ ap (λ l. l ++ mine ∷ []) before ∙ ap (λ (c : Caller). entries_by p (entries_in L.processes c.seen) ++ mine ∷ []) (sym now),
        subst (λ (c : Caller). IsUnanswered L c c.phase (mine ∷ [])) (sym now) refl,
      )

  sees_other : (events : List Event) (here now : Caller) (mine : Entry) → calls_by p (events ++ Step p ∷ []) ≡ entries_by p (entries_in L.processes here.seen) ++ mine ∷ [] → SeesOther L p here now
      → calls_by p (events ++ Step p ∷ []) ≡ entries_by p (entries_in L.processes now.seen) ++ mine ∷ []
  sees_other events here now mine calls s = calls ∙ ap (λ l. l ++ mine ∷ []) (sym (ap (λ l. entries_by p (entries_in L.processes l)) s.seen ∙ push_batch L.processes p here.seen s.batch
      ∙ ap (λ l. entries_by p (entries_in L.processes here.seen) ++ l) s.own ∙ append-nil (entries_by p (entries_in L.processes here.seen))))

  -- for each answer of a step
  by_answer : (events : List Event) (here : Caller) (mine : Entry) (given : StepAnswer) → calls_by p events ≡ entries_by p (entries_in L.processes here.seen) ++ mine ∷ []
      → IsStepped L p here mine (caller_of L (events ++ Step p ∷ []) p) given → HasReplayedBy L (events ++ Step p ∷ []) p mine given
  by_answer events here mine Working calls s = elim s.seen [
    | inl same ↦ step_calls p events ∙ calls ∙ ap (λ l. entries_by p (entries_in L.processes l) ++ mine ∷ []) (sym same)
    | inr more ↦ sees_other events here (caller_of L (events ++ Step p ∷ []) p) mine (step_calls p events ∙ calls) more
  ]
  by_answer events here mine (Answered slot response) calls s = step_calls p events ∙ calls
      ∙ sym (ap (λ l. entries_by p (entries_in L.processes l)) s.seen ∙ push_batch L.processes p here.seen s.batch ∙ ap (λ l. entries_by p (entries_in L.processes here.seen) ++ l) s.own)
  by_answer events here mine Full calls s = sees_other events here (caller_of L (events ++ Step p ∷ []) p) mine (step_calls p events ∙ calls) s.seen

  pending_own : (events : List Event) (mine : Entry) → pending_in (caller_of L events p).phase ≡ Some mine → Own events → calls_by p events ≡ entries_by p (seen_of L events p) ++ mine ∷ []
  pending_own events mine is own = own.1 ∙ ap (λ l. entries_by p (seen_of L events p) ++ l) (unanswered_one L (caller_of L events p) (caller_of L events p).phase mine own.0 is own.2)

  after_own : (events : List Event) (mine : Entry) → IsEventList L (events ++ Step p ∷ []) → pending_in (caller_of L events p).phase ≡ Some mine → Own events
      → HasReplayedBy L (events ++ Step p ∷ []) p mine (answer L events p)
  after_own events mine may is own =
      by_answer events (caller_of L events p) mine (answer L events p) (pending_own events mine is own) (stepped L Good agrees events p may mine is)

  own_answer : (events : List Event) (here : Caller) (mine : Entry) (given : StepAnswer) → IsStepped L p here mine (caller_of L events p) given → HasReplayedBy L events p mine given → Own events
  own_answer events here mine Working s h = (mine ∷ [], h, one_unanswered L (caller_of L events p) (caller_of L events p).phase mine s.pending)
  own_answer events here mine (Answered slot response) s h =
      ([], h ∙ sym (append-nil (entries_by p (seen_of L events p))), idle_unanswered L (caller_of L events p) (caller_of L events p).phase [] s.idle (inl refl))
  own_answer events here mine Full s h = (mine ∷ [], h, idle_unanswered L (caller_of L events p) (caller_of L events p).phase (mine ∷ []) s.idle (inr (s.all, mine, refl, s.unseen)))

  own_step : (events : List Event) → IsEventList L (events ++ Step p ∷ []) → MayStep L (state_of L events) p → Own events → Own (events ++ Step p ∷ [])
  own_step events may can own =
      let call = in_call (caller_of L events p).phase can.in_call in
      own_answer (events ++ Step p ∷ []) (caller_of L events p) call.0 (answer L events p) (stepped L Good agrees events p may call.0 call.1) (after_own events call.0 may call.1 own)

  last_may : (events : List Event) (e : Event) → IsEventList L (events ++ e ∷ []) → MayAllCome L (e ∷ []) (state_of L events)
  last_may events e may = may_right L events (e ∷ []) (first_world L) may

  own_event : (events : List Event) (e : Event) → IsEventList L (events ++ e ∷ []) → Own events → Own (events ++ e ∷ [])
  own_event events (Invoke q operation) may own = elim (cases_eq q p) [
    | inl same ↦ subst (λ i. MayInvoke L (state_of L events) i operation → Own (events ++ Invoke i operation ∷ [])) (sym same) (λ can. own_invoke events operation can own)
        (last_may events (Invoke q operation) may).0
    | inr ne ↦ own_other events (Invoke q operation ∷ []) (ne, tt) own
  ]
  own_event events (Step q) may own = elim (cases_eq q p) [
    | inl same ↦ subst (λ i. IsEventList L (events ++ Step i ∷ []) → MayStep L (state_of L events) i → Own (events ++ Step i ∷ [])) (sym same)
        (λ all can. own_step events all can own) may (last_may events (Step q) may).0
    | inr ne ↦ own_other events (Step q ∷ []) (ne, tt) own
  ]

  own_events : (front rest : List Event) → IsEventList L (front ++ rest) → Own front → Own (front ++ rest)
  own_events front [] may own = subst Own (sym (append-nil front)) own
  own_events front (e ∷ rest) may own =
      let again = append_assoc front (e ∷ []) rest in
      let all : IsEventList L ((front ++ e ∷ []) ++ rest) = subst (IsEventList L) (sym again) may in
      subst Own again (own_events (front ++ e ∷ []) rest all (own_event front e (prefix_may L Good agrees (front ++ e ∷ []) rest all) own))

  -- the calls of a process are its own entries that it has replayed, then those without an answer
  pub own : (events : List Event) → IsEventList L events → Own events
  own events may = own_events [] events may ([], refl, inl refl)

  pub own_stepped : (events : List Event) (mine : Entry) → IsEventList L (events ++ Step p ∷ []) → pending_in (caller_of L events p).phase ≡ Some mine
      → HasReplayedBy L (events ++ Step p ∷ []) p mine (answer L events p)
  own_stepped events mine may is = after_own events mine may is (own events (prefix_may L Good agrees events (Step p ∷ []) may))

  module _ (events : List Event) (may : IsEventList L events) where
    abbrev w : World R
    w = state_of L events

    abbrev here : Caller
    here = caller_of L events p

    abbrev known : List Entry
    known = seen_of L events p

    abbrev behind : List Entry
    behind = entries_in L.processes (replayed_batches L Good agrees events p may).0

    parts : entries L events ≡ known ++ behind
    parts = let r = replayed_batches L Good agrees events p may in ap (entries_in L.processes) r.1 ∙ entries_put L.processes here.seen r.0

    there : (k : ℕ) (x : Entry) → slice_get behind k ≡ Some x → slice_get (entries L events) (length known + k) ≡ Some x
    there k x at = ap (λ l. slice_get l (length known + k)) parts ∙ get_right known behind k ∙ at

    -- an entry stands once
    once : (j k : ℕ) (x : Entry) → slice_get (entries L events) j ≡ Some x → slice_get (entries L events) k ≡ Some x → j ≡ k
    once j k x a b = one_place L Good agrees events may j k x (there_of L Good agrees events may j x a) (there_of L Good agrees events may k x b)

    -- behind the entries that the process has replayed, only its pending call can be its own
    is_pending : (k : ℕ) (x : Entry) → slice_get behind k ≡ Some x → x.process ≡ p → IsMine here.phase x
    is_pending k x at own = go (there_of L Good agrees events may (length known + k) x (there k x at)).low
        (stands_there L Good agrees events may (length known + k) x (there_of L Good agrees events may (length known + k) x (there k x at))).batch
        (fixed_begun L Good agrees w (holds_after L Good agrees events may) (there_of L Good agrees events may (length known + k) x (there k x at)).slot _
        (stands_there L Good agrees events may (length known + k) x (there_of L Good agrees events may (length known + k) x (there k x at))).fixed)
        (stands_there L Good agrees events may (length known + k) x (there_of L Good agrees events may (length known + k) x (there k x at))).has
      where
        nothing : (bs : List Batch) (k : ℕ) (x : Entry) → length bs ≡ 0 → slice_get (entries_in L.processes bs) k ≡ Some x → ⊥
        nothing [] k x none h = cc h
        nothing (b ∷ bs) k x none h = omega (arith, none)

        go : x.process < L.processes → (b : Batch) → IsBegun L w (there_of L Good agrees events may (length known + k) x (there k x at)).slot b → HoldsEntry b x → IsMine here.phase x
        go lt b begun has = elim ((facts_after L Good agrees events may).done x (begun.called x has)) [
          | inl mine ↦ subst (λ q. IsMine (w.caller q).phase x) own mine
          | inr (inl s) ↦ (
              let was : slice_get here.seen s.slot ≡ Some s.batch = ap (λ q. slice_get (w.caller q).seen s.slot) (sym own) ∙ s.there in
              let place : ℕ = length (entries_in L.processes (take s.slot here.seen)) + length (members x.process 0 s.batch) in
              let at' = in_entries L.processes here.seen s.slot s.batch x.process x was lt s.has in
              let now : slice_get (entries L events) place ≡ Some x = ap (λ l. slice_get l place) parts ∙ get_front known behind place x at' in
              let same = once place (length known + k) x now (there k x at) in
              let less = get_low known place x at' in
              absurd (omega (arith, same, less))
              )
          | inr (inr full) ↦ (
              let whole : L.capacity ≤ length here.seen = subst (λ q. L.capacity ≤ length (w.caller q).seen) own full in
              let few = entries_few L w.round L.capacity 0 in
              let split = replayed_batches L Good agrees events p may in
              let len : length (batches L events) ≡ length here.seen + length split.0 = ap length split.1 ∙ length-append here.seen split.0 in
              absurd (nothing split.0 k x (omega (arith, whole, few, len)) at)
              )
        ]

    no_mine : (ph : Phase) (x : Entry) → pending_in ph ≡ None → IsMine ph x → ⊥
    no_mine Idle x is h = h
    no_mine (Looks m i batch) x is h = absurd (cc)
    no_mine (Runs m) x is h = absurd (cc)

    the_mine : (ph : Phase) (mine x : Entry) → pending_in ph ≡ Some mine → IsMine ph x → x ≡ mine
    the_mine Idle mine x is h = absurd h
    the_mine (Looks m i batch) mine x is h = cc
    the_mine (Runs m) mine x is h = cc

    twice : (mine : Entry) (j k : ℕ) → slice_get behind j ≡ Some mine → slice_get behind k ≡ Some mine → j ≡ k
    twice mine j k a b =
        let same = once (length known + j) (length known + k) mine (there j mine a) (there k mine b) in
        omega (arith, same)

    -- its own entries behind those that it has replayed are the first of its calls without an answer
    begins : (o : Option Entry) (rest : List Entry) → pending_in here.phase ≡ o → IsUnanswered L here here.phase rest → BeginsWith rest (entries_by p behind)
    begins None rest is h = (rest, ap (λ l. l ++ rest) (sym (none_by p behind (λ k x at own. no_mine here.phase x is (is_pending k x at own)))))
    begins (Some mine) rest is h = elim (one_by p mine behind (λ k x at own. the_mine here.phase mine x is (is_pending k x at own)) (twice mine)) [
      | inl none ↦ (rest, ap (λ l. l ++ rest) (sym none))
      | inr one ↦ ([], unanswered_one L here here.phase mine rest is h ∙ sym (append-nil (mine ∷ [])) ∙ ap (λ l. l ++ []) (sym one))
    ]

    pub made : BeginsWith (calls_by p events) (entries_by p (entries L events))
    made =
        let mine = own events may in
        let more = begins (pending_in here.phase) mine.0 refl mine.2 in
        let log : entries_by p (entries L events) ≡ entries_by p known ++ entries_by p behind = ap (λ l. entries_by p l) parts ∙ by_append p known behind in
        (more.0, mine.1 ∙ ap (λ l. entries_by p known ++ l) more.1 ∙ sym (append_assoc (entries_by p known) (entries_by p behind) more.0) ∙ ap (λ l. l ++ more.0) (sym log))

    -- and so for the entries that any process has replayed
    pub seen_made : (q : ℕ) → BeginsWith (calls_by p events) (entries_by p (seen_of L events q))
    seen_made q =
        let his = replayed L Good agrees events q may in
        let all = made in
        let log : entries_by p (entries L events) ≡ entries_by p (seen_of L events q) ++ entries_by p his.0 = ap (λ l. entries_by p l) his.1 ∙ by_append p (seen_of L events q) his.0 in
        (entries_by p his.0 ++ all.0, all.1 ∙ ap (λ l. l ++ all.0) log ∙ append_assoc (entries_by p (seen_of L events q)) (entries_by p his.0) all.0)
