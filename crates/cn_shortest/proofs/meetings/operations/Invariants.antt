use Rattle.std.proofs.Common.{ℕ, ◌≡◌, map, take}
use Rattle.std.specs.Prelude.{slice_index}
use Rattle.cn_shortest.proofs.meetings.operations.Given as goal

abbrev pub invariant-loop-process : goal.invariant-loop-process
invariant-loop-process l = map (λ o. o.0) l.operations.items ≡ map (λ (p : ℕ). slice_index l.example.operations p) (take l.process-index l.process-items)
