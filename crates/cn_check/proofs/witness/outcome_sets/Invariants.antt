use Rattle.std.proofs.Common.{ℕ, ◌↔◌}
use Rattle.cn_choice.specs.Canonical.{raw_choice_of}
use Rattle.cn_check.specs.WalkedRuns.{AreWalked, HasPair}
use Rattle.cn_check.proofs.RunLemmas.{Below, ShowsFirst}
use Rattle.cn_check.proofs.witness.outcome_sets.Given as goal

-- what the orders show that begin with a process of the team so far
abbrev pub invariant-loop-first : goal.invariant-loop-first
invariant-loop-first l = record {
  shown : (j r q : ℕ) → HasPair l.pairs j r q ↔ Below (ShowsFirst l.table (raw_choice_of l.choice) l.team j r q) l.first;
  walked : AreWalked l.table (raw_choice_of l.choice) l.end_sets l.pairs;
}
