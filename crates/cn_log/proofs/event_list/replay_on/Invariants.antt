use Rattle.std.proofs.Common.{◌≡◌, take}
use Rattle.cn_log.proofs.event_list.replay_on.Given as goal

abbrev pub invariant-loop-event : goal.invariant-loop-event
invariant-loop-event l = record {
  opening : l.core.opening ≡ l.fn.core.opening;
  schedule : l.core.schedule ≡ take l.event-index l.events;
}
