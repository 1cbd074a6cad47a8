-- How events end calls.
use Rattle.std.specs.Prelude.{ℕ, List, [], ◌∷◌, ◌++◌, Bool, true, false, map, option_to_list, Some}
use Rattle.std.specs.List.{list_any}
use Rattle.cn_log.specs.CallEnds.{call_end}
use Rattle.cn_log.specs.Callers.{process_of}
use Rattle.cn_log.specs.Log.{Setting}
use Rattle.cn_log.specs.declared.event.CallEnd.{CallEnd}
use Rattle.cn_log.specs.declared.event.CallEnd.TheVariants.{Answered, Full}
use Rattle.cn_json.specs.declared.log.AnswerOf.{AnswerOf}
use Rattle.cn_log.specs.declared.event.Event.{Event}

-- how the event after these ends a call, with its process, if it ends one
abbrev pub ends_by : {R : Type 0} → Setting R → List Event → Event → List (ℕ × CallEnd)
ends_by L before e = map (λ end. (process_of e, end)) (option_to_list (call_end L before e))

-- how the events after these end calls, each with its process, in order
abbrev pub ends_after : {R : Type 0} → Setting R → List Event → List Event → List (ℕ × CallEnd)
ends_after L before [] = []
ends_after L before (e ∷ es) = ends_by L before e ++ ends_after L (before ++ e ∷ []) es

abbrev pub is_full : CallEnd → Bool
is_full (Answered reply) = false
is_full Full = true

-- some call found no slot
abbrev pub has_full : List (ℕ × CallEnd) → Bool
has_full ends = list_any (λ end. is_full end.1) ends

-- a call that ended, as JSON tells it
abbrev pub answer_of : ℕ × CallEnd → AnswerOf
answer_of end = record { process = end.0; end = Some end.1 }

abbrev pub answers_told : List (ℕ × CallEnd) → List AnswerOf
answers_told ends = map answer_of ends
