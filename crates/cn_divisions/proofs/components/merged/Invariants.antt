use Rattle.std.proofs.Common.{◌≡◌, ◌≢◌, ◌<◌, ℕ, length}
use Rattle.std.specs.Prelude.{slice_index}
use Rattle.cn_divisions.proofs.components.merged.Given as goal

-- the operations so far have their new teams, the others their old ones
abbrev pub invariant-loop-operation : goal.invariant-loop-operation
invariant-loop-operation l = record {
  long : length l.merged ≡ length l.teams;
  done : (x : ℕ) → x < l.operation
      → (slice_index l.teams x ≡ slice_index l.teams l.fn.g → slice_index l.merged x ≡ slice_index l.teams l.fn.f)
      × (slice_index l.teams x ≢ slice_index l.teams l.fn.g → slice_index l.merged x ≡ slice_index l.teams x);
}
