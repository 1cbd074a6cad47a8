use Rattle.std.proofs.Common.{◌≡◌, ◌<◌, ◌++◌, drop, length, string_bytes}
use Rattle.cn_log.specs.Linearized.{entry_slots}
use Rattle.cn_log.specs.Log.{entries}
use Rattle.cn_log.specs.Opening.{setting}
use Rattle.cn_plan_text.specs.Log.{entry_lines}
use Rattle.cn_plan_text.proofs.log.entry_lines.Given as goal

abbrev pub invariant-loop-place : goal.invariant-loop-place
invariant-loop-place l = record {
  state : l.state.0 < length l.object.states;
  lines : string_bytes l.lines ++ entry_lines l.object l.state.0 (drop l.place (entries (setting l.core) l.core.schedule)) (drop l.place (entry_slots (setting l.core) l.core.schedule))
      ≡ entry_lines l.object l.fn.start.0 (entries (setting l.core) l.core.schedule) (entry_slots (setting l.core) l.core.schedule);
}
