use Rattle.std.proofs.Common.{◌<◌, ℕ}
use Rattle.cn_choice.specs.Canonical.{raw_choice_of}
use Rattle.cn_choice.specs.Discerning.{OutcomeSetsMeet}
use Rattle.cn_proto.specs.Judgement.{AreOutcomeSets}
use Rattle.cn_proto.proofs.judgement.all_judged_pairs.Given as goal

-- the pairs of the processes so far; none of them has outcome sets that meet
abbrev pub invariant-loop-process : goal.invariant-loop-process
invariant-loop-process l = record {
  listed : AreOutcomeSets l.table (raw_choice_of l.choice) l.process l.judged_pairs.items;
  apart : (i : ℕ) → i < l.process
      → ¬ OutcomeSetsMeet l.table (raw_choice_of l.choice) i;
}
