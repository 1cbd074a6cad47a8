use Rattle.std.proofs.Common.{ℕ, ◌≡◌, ◌<◌, length, slice_index}
use Rattle.cn_divisions.proofs.teams.teams_by_operation.Given as goal

abbrev pub invariant-loop-process : goal.invariant-loop-process
invariant-loop-process l = record {
  long : length l.teams.items ≡ l.process;
  each : (p : ℕ) → p < l.process → slice_index l.teams.items p ≡ slice_index l.of_operations (slice_index l.setting.stock.now.operations.items p);
}
