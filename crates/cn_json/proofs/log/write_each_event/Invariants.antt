use Rattle.std.proofs.Common.{◌≡◌, ◌++◌, drop}
use Rattle.cn_json.specs.Log.{event_data}
use Rattle.cn_json.specs.Tokens.{list_rest}
use Rattle.cn_json.proofs.log.write_each_event.Given as goal

-- the events that are left make up the array
abbrev pub invariant-loop-event : goal.invariant-loop-event
invariant-loop-event l = l.out ++ list_rest event_data (drop l.event-index l.events) ≡ l.initial.out ++ list_rest event_data l.events
