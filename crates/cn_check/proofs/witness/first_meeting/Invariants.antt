use Rattle.std.proofs.Common.{ℕ, ◌<◌}
use Rattle.cn_choice.specs.Discerning.{OutcomeSetsMeet}
use Rattle.cn_choice.specs.Canonical.{raw_choice_of}
use Rattle.cn_check.proofs.witness.first_meeting.Given as goal

-- the outcome sets of no process so far meet
abbrev pub invariant-loop-process : goal.invariant-loop-process
invariant-loop-process l = (j : ℕ) → j < l.process → ¬ OutcomeSetsMeet l.table (raw_choice_of l.choice) j
