use Rattle.std.proofs.Common.{◌≢◌, ◌⊎◌, ◌<◌, ℕ}
use Rattle.std.specs.Prelude.{slice_index}
use Rattle.cn_merging.specs.Rounds.{Disagree}
use Rattle.cn_merging.proofs.firsts.first_agreeing.Given as goal

-- no state so far is of the class and agrees
abbrev pub invariant-loop-p : goal.invariant-loop-p
invariant-loop-p l = (k : ℕ) → k < l.p
    → (slice_index l.firsts k ≢ slice_index l.firsts l.q.0) ⊎ Disagree l.table l.firsts k l.q.0
