use Rattle.std.proofs.Common.{◌≡◌, ℕ, ◌-◌, ◌↔◌, ◌⊎◌}
use Rattle.cn_choice.specs.Canonical.{raw_choice_of}
use Rattle.cn_check.specs.Runs.{IsIn}
use Rattle.cn_check.specs.WalkedRuns.{AreWalked, HasPair}
use Rattle.cn_check.proofs.RunLemmas.{Below, EndsNext, ShowsNext}
use Rattle.cn_check.proofs.witness.+walk.Given as goal

-- the number of those that have moved can grow
abbrev pub decreases-walk : goal.decreases-walk
decreases-walk l = 256 - l.used

-- what is known of the point itself, and after a move of each process so far
abbrev pub invariant-loop-next : goal.invariant-loop-next
invariant-loop-next l = record {
  ends : (q : ℕ) → IsIn l.ends q ↔ ((q ≡ l.state.0) ⊎ Below (EndsNext l.table (raw_choice_of l.choice) l.used l.state.0 q) l.next);
  shown : (j r q : ℕ) → HasPair l.pairs j r q ↔ (HasPair l.initial.pairs j r q ⊎ Below (ShowsNext l.table (raw_choice_of l.choice) l.used l.state.0 j r q) l.next);
  walked : AreWalked l.table (raw_choice_of l.choice) l.end_sets l.pairs;
}
