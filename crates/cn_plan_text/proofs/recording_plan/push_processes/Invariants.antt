use Rattle.std.proofs.Common.{◌≡◌, ◌++◌, flat_map, string_bytes}
use Rattle.std.specs.List.{range_with_len}
use Rattle.cn_plan_text.specs.RecordingPlans.{process_line}
use Rattle.cn_plan_text.proofs.recording_plan.push_processes.Given as goal

-- the processes so far
abbrev pub invariant-loop-process : goal.invariant-loop-process
invariant-loop-process l = string_bytes l.text ≡ string_bytes l.initial.text ++ flat_map (process_line l.plan) (range_with_len 0 l.process)
