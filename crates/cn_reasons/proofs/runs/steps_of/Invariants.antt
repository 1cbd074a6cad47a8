use Rattle.std.proofs.Common.{◌≡◌, ◌<◌, ◌++◌, All, drop, length}
use Rattle.cn_reasons.specs.Known.{IsKnownStep}
use Rattle.cn_reasons.specs.Runs.{steps_of}
use Rattle.cn_reasons.proofs.runs.steps_of.Given as goal

-- the steps so far, and those that are left
abbrev pub invariant-loop-process : goal.invariant-loop-process
invariant-loop-process l = record {
  state : l.state.0 < length l.table.states;
  count : length l.steps.items ≡ l.process-index;
  known : All (IsKnownStep l.table) l.steps.items;
  steps : l.steps.items ++ steps_of l.table l.choice l.state.0 (drop l.process-index l.order) ≡ steps_of l.table l.choice l.choice.state l.order;
}
