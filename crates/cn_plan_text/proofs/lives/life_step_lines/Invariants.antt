use Rattle.std.proofs.Common.{◌≡◌, ◌++◌, drop, string_bytes}
use Rattle.cn_plan_text.specs.Lives.{life_step_lines}
use Rattle.cn_plan_text.proofs.lives.life_step_lines.Given as goal

abbrev pub invariant-loop-event : goal.invariant-loop-event
invariant-loop-event l =
    string_bytes l.lines ++ life_step_lines l.table (drop l.event-index l.events)
    ≡ life_step_lines l.table l.events
