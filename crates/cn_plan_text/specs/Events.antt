-- The line of the events of a log.
use Rattle.std.specs.Prelude.{ℕ, List, [], ◌∷◌, codes, decimal}
use Rattle.std.specs.List.{concat, join_by}
use Rattle.cn_log.specs.declared.event.Event.{Event}
use Rattle.cn_log.specs.declared.event.Event.TheVariants.{Invoke, Step}

-- the text of an event, in the form in which lists of events are read
abbrev pub event_text : Event → List ℕ
event_text (Invoke p operation) =
    concat (codes "i" ∷ decimal p ∷ codes ":" ∷ decimal operation ∷ [])
event_text (Step p) = concat (codes "s" ∷ decimal p ∷ [])

-- the text of events, in the form in which lists of them are read
abbrev pub events_text : List Event → List ℕ
events_text [] = codes "none"
events_text (e ∷ es) = join_by event_text (codes ",") (e ∷ es)

abbrev pub events_line : List Event → List ℕ
events_line events = concat (codes "events " ∷ events_text events ∷ codes "\n" ∷ [])
