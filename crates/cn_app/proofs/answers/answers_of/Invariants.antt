use Rattle.std.proofs.Common.{◌≡◌, ◌≤◌, ◌++◌, [], drop, length, take, vec_capacity}
use Rattle.cn_log.specs.Opening.{setting_of}
use Rattle.cn_plan_text.specs.Log.{HaveResponses}
use Rattle.cn_app.specs.Answers.{ends_after}
use Rattle.cn_app.proofs.answers.answers_of.Given as goal

abbrev pub invariant-loop-event : goal.invariant-loop-event
invariant-loop-event l = record {
  opening : l.core.opening ≡ l.fn.opening;
  schedule : l.core.schedule ≡ take l.event-index l.events;
  ends : l.ends.items ++ ends_after (setting_of l.fn.opening) (take l.event-index l.events) (drop l.event-index l.events) ≡ ends_after (setting_of l.fn.opening) [] l.events;
  responses : HaveResponses l.fn.opening.object l.ends.items;
  few : length l.ends.items ≤ l.event-index;
  room : length l.events ≤ vec_capacity l.ends;
}
