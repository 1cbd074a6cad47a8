-- From what threads leave to its lines.
use Rattle.std.proofs.Common.{◌≡◌, ◌<◌, ◌+◌, ℕ, IfSome, List, [], ◌∷◌, Option, Some, None, Vec, Global, length, map, option_map, slice_get, slice_index_or, refl, sym, subst, ◌∙◌}
use Rattle.std.proofs.lemmas.List.Elements.{All-append, All-cons, All-head, All-map, All-nil, All-tail}
use Rattle.std.proofs.lemmas.Option.{slice_get-get_or, slice_get-map}
use Rattle.cn_table.proofs.Lists.{there_is}
use Rattle.cn_table.specs.TypeTable.{TypeTable}
use Rattle.cn_log.specs.Opening.{Log}
use Rattle.cn_log.specs.CallEnds.{EndsWithResponse}
use Rattle.cn_log.specs.declared.event.CallEnd.TheVariants.{Answered}
use Rattle.cn_hall.specs.declared.call.CallFault.{CallFault}
use Rattle.cn_hall.specs.declared.call.CallFault.TheVariants.{LogFull, Stopped}
use Rattle.cn_json.specs.Log.{HaveResponses}
use Rattle.cn_json.specs.declared.log.AnswerOf.{AnswerOf}
use Rattle.cn_log.specs.declared.event.Reply.{Reply}
use Rattle.cn_plan_text.specs.Log.{RepliesHaveResponses}
use Rattle.cn_app.specs.Lines.Threads.{EachHasResponses, call_answers, fault_answers, history_answers, reply_answers}
use Rattle.cn_service.specs.Serving.{HasServed}
use Rattle.cn_service.specs.declared.workers.ProcessHistory.{ProcessHistory}

-- the list at a place is that of the value at this place
at_place : {V : Type 0} (items : V → List ℕ) (calls : List V) (p : ℕ) (c : List ℕ) → slice_get (map items calls) p ≡ Some c → (v : V) × (slice_get calls p ≡ Some v) × (items v ≡ c)
at_place {V} items calls p c there = by_option (slice_get calls p) refl (sym (slice_get-map items calls p) ∙ there)
  where
    by_option : (o : Option V) → slice_get calls p ≡ o → option_map items o ≡ Some c → (v : V) × (slice_get calls p ≡ Some v) × (items v ≡ c)
    by_option None is h = absurd cc
    by_option (Some v) is h = (v, is, cc)

-- what each process of the lists of calls made
pub each_served : (core : Log) (calls : List (Vec ℕ Global)) (worked : List ProcessHistory)
    → ((p : ℕ) (c : Vec ℕ Global) (w : ProcessHistory) → slice_get calls p ≡ Some c → slice_get worked p ≡ Some w → HasServed core p c.items w.replies.items w.fault)
    → (p : ℕ) (c : List ℕ) (w : ProcessHistory) → slice_get (map (λ list. list.items) calls) p ≡ Some c → slice_get worked p ≡ Some w → HasServed core p c w.replies.items w.fault
each_served core calls worked served p c w there done =
    let at = at_place (λ (list : Vec ℕ Global). list.items) calls p c there in
    subst (λ (x : List ℕ). HasServed core p x w.replies.items w.fault) at.2 (served p at.0 w at.1 done)

-- the responses of the replies are the object's
pub each_has_responses : (object : TypeTable) (calls : List (Vec ℕ Global)) (core : Log) (worked : List ProcessHistory) → core.opening.object ≡ object → length worked ≡ length calls
    → ((p : ℕ) (c : Vec ℕ Global) (w : ProcessHistory) → slice_get calls p ≡ Some c → slice_get worked p ≡ Some w → HasServed core p c.items w.replies.items w.fault)
    → EachHasResponses object worked
each_has_responses object calls core worked same many served p d less =
    let w : ProcessHistory = slice_index_or worked p d in
    let at = there_is calls p (subst (λ (n : ℕ). p < n) many less) in
    subst (λ (o : TypeTable). RepliesHaveResponses o w.replies.items) same (served p at.0 w at.1 (slice_get-get_or worked p d less)).range

-- as JSON tells them, calls have the responses of their replies
module _ (object : TypeTable) where
  -- the response of a call, if there is one, is one of the object's
  abbrev Has : AnswerOf → Type 0
  Has a = IfSome a.end (EndsWithResponse object)

  replies_have : (p : ℕ) (replies : List Reply) → RepliesHaveResponses object replies → HaveResponses object (reply_answers p replies)
  replies_have p replies have = All-map Has (λ (reply : Reply). record { process = p; end = Some (Answered reply) }) replies have

  fault_has : (p : ℕ) (fault : Option CallFault) → HaveResponses object (fault_answers p fault)
  fault_has p None = All-nil Has
  fault_has p (Some LogFull) = All-cons Has _ [] tt (All-nil Has)
  fault_has p (Some Stopped) = All-cons Has _ [] tt (All-nil Has)

  pub told_have_responses : (p : ℕ) (worked : List ProcessHistory) → EachHasResponses object worked → HaveResponses object (history_answers p worked)
  told_have_responses p [] each = All-nil Has
  told_have_responses p (w ∷ ws) each =
      All-append Has (call_answers p w.replies.items w.fault) (history_answers (p + 1) ws)
      (All-append Has (reply_answers p w.replies.items) (fault_answers p w.fault)
      (replies_have p w.replies.items (All-head (λ (v : ProcessHistory). RepliesHaveResponses object v.replies.items) w ws each)) (fault_has p w.fault))
      (told_have_responses (p + 1) ws (All-tail (λ (v : ProcessHistory). RepliesHaveResponses object v.replies.items) w ws each))
