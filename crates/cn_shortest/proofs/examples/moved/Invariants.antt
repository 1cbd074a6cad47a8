use Rattle.std.proofs.Common.{ℕ, ◌≡◌, ◌<◌, ◌≤◌, length}
use Rattle.std.specs.Prelude.{slice_index}
use Rattle.cn_shortest.specs.Examples.{moved}
use Rattle.cn_shortest.proofs.examples.moved.Given as goal

abbrev pub invariant-loop-process : goal.invariant-loop-process
invariant-loop-process l = record {
  long : length l.new ≡ 8;
  done : (p : ℕ) → p < l.process → slice_index l.new p ≡ moved (λ q. slice_index l.teams q) l.fn.from l.fn.to p;
  rest : (p : ℕ) → l.process ≤ p → slice_index l.new p ≡ slice_index l.teams p;
}
