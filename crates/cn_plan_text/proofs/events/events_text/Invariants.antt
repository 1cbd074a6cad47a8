use Rattle.std.proofs.Common.{◌≡◌, ◌++◌, codes, drop, string_bytes}
use Rattle.std.specs.List.{flat_map}
use Rattle.cn_plan_text.specs.Events.{event_text, events_text}
use Rattle.cn_plan_text.proofs.events.events_text.Given as goal

abbrev pub invariant-loop-event : goal.invariant-loop-event
invariant-loop-event l = string_bytes l.text ++ flat_map (λ e. codes "," ++ event_text e) (drop l.event-index l.rest) ≡ events_text l.events
