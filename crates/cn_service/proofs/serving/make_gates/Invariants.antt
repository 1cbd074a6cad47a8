use Rattle.std.proofs.Common.{ℕ, Some, slice_get, ◌≡◌, ◌≤◌, All, length, vec_capacity}
use Rattle.cn_hall.specs.declared.call.Go.TheVariants.{On}
use Rattle.cn_service.proofs.serving.make_gates.Given as goal

abbrev pub invariant-loop-process : goal.invariant-loop-process
invariant-loop-process g l = record {
  calls : goal.F-IsAlwaysCallable g l.make_gate;
  same : l.make_gate ≡ l.fn.make_gate;
  made : (p : ℕ) (x : g.row.G.Denot) → slice_get l.gates.items p ≡ Some x → goal.F-post g l.make_gate p x;
  count : length l.gates.items ≡ l.process;
  room : l.fn.processes ≤ vec_capacity l.gates;
  says : All (λ x. g.G.Gate.says x ≡ On) l.gates.items;
}
