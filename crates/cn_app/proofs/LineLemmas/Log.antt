-- Events, entries and calls that ended, one at a time.
use Rattle.std.proofs.Common.{◌≡◌, ◌∙◌, ℕ, IfSome, zero, suc, ◌<◌, List, [], ◌∷◌, ◌++◌, ap, drop, length, take, slice_get, slice_index_or, Some, subst, sym}
use Rattle.std.proofs.Math.Seq.{drop-cons}
use Rattle.std.proofs.lemmas.List.{take-append-drop}
use Rattle.std.proofs.lemmas.List.Elements.{All-append, All-map}
use Rattle.std.proofs.lemmas.Option.{slice_get-get_or}
use Rattle.cn_table.specs.TypeTable.{TypeTable}
use Rattle.cn_log.specs.CallEnds.{EndsWithResponse}
use Rattle.cn_log.specs.declared.entry.Entry.{Entry}
use Rattle.cn_log.specs.declared.event.CallEnd.{CallEnd}
use Rattle.cn_log.specs.declared.event.Event.{Event}
use Rattle.cn_log.specs.declared.event.Event.TheVariants.{Invoke}
use Rattle.cn_log.specs.declared.fault.EventFault.{EventFault}
use Rattle.cn_log.specs.Faults.{IsFirstEventFault}
use Rattle.cn_log.specs.Linearized.{IsLinearized}
use Rattle.cn_log.specs.Log.{Setting, World, IsEventList, MayAllCome, MayCome, after_event, after_events, entries, first_world, state_of}
use Rattle.cn_plan_text.specs.Log.{HaveResponses}
use Rattle.cn_json.specs.Log as json
use Rattle.cn_json.specs.declared.log.AnswerOf.{AnswerOf}
use Rattle.cn_app.specs.Answers.{answer_of, answers_told}

module _ {R : Type 0} (L : Setting R) where
  may_come_from : (events : List Event) (w : World R) (i : ℕ) (e : Event) → MayAllCome L events w → slice_get events i ≡ Some e → MayCome L (after_events L (take i events) w) e
  may_come_from [] w i e may there = absurd cc
  may_come_from (x ∷ events) w zero e may there = let is : x ≡ e = cc in subst (λ (y : Event). MayCome L w y) is may.0
  may_come_from (x ∷ events) w (suc i) e may there = may_come_from events (after_event L w x) i e may.1 there

  -- the event at a place can come there
  pub may_come_at : (events : List Event) (i : ℕ) (e : Event) → IsEventList L events → slice_get events i ≡ Some e → MayCome L (state_of L (take i events)) e
  may_come_at events i e may there = may_come_from events (first_world L) i e may there

  -- each entry has an operation of the object
  pub known_entries : (events : List Event) → IsEventList L events → IsLinearized L events
      → (k : ℕ) (d : Entry) → k < length (entries L events) → (slice_index_or (entries L events) k d).operation.0 < length L.object.operations
  known_entries events may linearized k d less =
      let e : Entry = slice_index_or (entries L events) k d in
      let called = linearized.called k e (slice_get-get_or (entries L events) k d less) in
      (may_come_at events called.0 (Invoke e.process e.operation.0) may called.1.invoke).operation

-- the fault of an event behind the first k of a list is that of the first event of the list that cannot come
pub first_in_list : {R : Type 0} (L : Setting R) (events : List Event) (k : ℕ) (d : Event) (s : List Event) (fault : EventFault) → s ≡ take k events → k < length events
    → ((rest : List Event) → IsFirstEventFault L (s ++ slice_index_or events k d ∷ rest) fault) → IsFirstEventFault L events fault
first_in_list L events k d s fault is less first =
    let e : Event = slice_index_or events k d in
    let parted = ap (λ front. front ++ e ∷ drop (suc k) events) is ∙ ap (λ rest. take k events ++ rest) (sym (drop-cons events k d less)) ∙ take-append-drop k events in
    subst (λ (es : List Event). IsFirstEventFault L es fault) parted (first (drop (suc k) events))

-- more calls that ended have responses too
pub responses_more : (object other : TypeTable) (ends more : List (ℕ × CallEnd)) → other ≡ object → HaveResponses object ends → HaveResponses other more → HaveResponses object (ends ++ more)
responses_more object other ends more same have here = All-append (λ (end : ℕ × CallEnd). EndsWithResponse object end.1) ends more have (subst (λ (o : TypeTable). HaveResponses o more) same here)

-- as JSON tells them, they have the same responses
pub answers_have_responses : (object : TypeTable) (ends : List (ℕ × CallEnd)) → HaveResponses object ends → json.HaveResponses object (answers_told ends)
answers_have_responses object ends have =
    All-map (λ (a : AnswerOf). IfSome a.end (EndsWithResponse object)) answer_of ends have
