use Rattle.std.proofs.Common.{ℕ, ◌≡◌, ◌<◌, ◌≤◌, length}
use Rattle.std.specs.Prelude.{slice_index}
use Rattle.cn_shortest.specs.Examples.{IsFirstAlike}
use Rattle.cn_shortest.proofs.examples.example_of.Given as goal

abbrev pub invariant-loop-process : goal.invariant-loop-process
invariant-loop-process l = record {
  long_operations : length l.operations ≡ 8;
  long_teams : length l.teams ≡ 8;
  same : (p : ℕ) → p < l.process → slice_index l.operations p ≡ slice_index l.division.operations.items p;
  none : (p : ℕ) → l.process ≤ p → slice_index l.operations p ≡ 0;
  alike : (p : ℕ) → p < l.process → IsFirstAlike l.division.teams.items p (slice_index l.teams p);
}
