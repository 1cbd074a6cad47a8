use Rattle.std.specs.Prelude.{◌≡◌, ◌<◌, ◌-◌, ℕ, length, None}
use Rattle.cn_search.specs.Faults.{find_fault}
use Rattle.cn_finding.specs.declared.limits.TheConstants.{GREATEST_LIMIT}
use Rattle.cn_search.proofs.greatest.greatest_limit.Given as goal

-- each limit above this one is refused
abbrev pub invariant-loop-less : goal.invariant-loop-less
invariant-loop-less l = (more : ℕ) → GREATEST_LIMIT - l.less < more → ¬ (find_fault (length l.table.states) (length l.table.operations) more ≡ None)
