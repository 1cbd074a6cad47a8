use Rattle.std.proofs.Common.{ℕ, ◌≡◌, ◌<◌, slice_index}
use Rattle.cn_divisions.proofs.teams.is_parted.Given as goal

abbrev pub invariant-loop-team : goal.invariant-loop-team
invariant-loop-team l = (p : ℕ) → p < l.team-index → slice_index l.teams p ≡ slice_index l.teams 0
