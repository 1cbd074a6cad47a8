use Rattle.std.proofs.Common.{ℕ, ◌≢◌, ◌<◌}
use Rattle.std.specs.Prelude.{slice_index}
use Rattle.cn_shortest.proofs.examples.first_alike.Given as goal

abbrev pub invariant-loop-first : goal.invariant-loop-first
invariant-loop-first l = (r : ℕ) → r < l.first → slice_index l.teams r ≢ slice_index l.teams l.fn.process
