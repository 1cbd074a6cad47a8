use Rattle.std.proofs.Common.{◌≡◌, ◌<◌, ℕ, length}
use Rattle.std.specs.Prelude.{slice_index}
use Rattle.cn_merging.specs.Rounds.{IsFirstAgreeing}
use Rattle.cn_merging.proofs.firsts.refined.Given as goal

-- the states so far
abbrev pub invariant-loop-q : goal.invariant-loop-q
invariant-loop-q l = record {
  long : length l.finer.items ≡ l.q;
  each : (k : ℕ) → k < l.q → IsFirstAgreeing l.table l.firsts k (slice_index l.finer.items k);
}
