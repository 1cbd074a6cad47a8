-- How calls end, event by event.
use Rattle.std.specs.Prelude.{◌<◌, List, length, Option, Some, None}
use Rattle.cn_table.specs.TypeTable.{TypeTable}
use Rattle.cn_log.specs.declared.event.CallEnd.{CallEnd}
use Rattle.cn_log.specs.declared.event.CallEnd.TheVariants as ends
use Rattle.cn_log.specs.declared.event.Event.{Event}
use Rattle.cn_log.specs.declared.event.Event.TheVariants.{Invoke, Step}
use Rattle.cn_log.specs.declared.event.StepAnswer.{StepAnswer}
use Rattle.cn_log.specs.declared.event.StepAnswer.TheVariants.{Working, Answered, Full}
use Rattle.cn_log.specs.Log.{Setting, answer}

-- how a step with this answer ends the call of its process, if it ends it
abbrev pub end_of : StepAnswer → Option CallEnd
end_of Working = None
end_of (Answered slot response) = Some (ends.Answered (record { slot = slot; response = response }))
end_of Full = Some ends.Full

-- how the event after these ends a call of its process, if it ends one
abbrev pub call_end : {R : Type 0} → Setting R → List Event → Event → Option CallEnd
call_end L before (Invoke p operation) = None
call_end L before (Step p) = end_of (answer L before p)

-- the response, if there is one, is one of the object's
abbrev pub EndsWithResponse : TypeTable → CallEnd → Type 0
EndsWithResponse t (ends.Answered reply) = reply.response.0 < length t.responses
EndsWithResponse t ends.Full = Unit {0}
