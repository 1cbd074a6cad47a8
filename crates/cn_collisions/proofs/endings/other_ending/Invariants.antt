use Rattle.std.proofs.Common.{◌<◌, ◌≤◌, ℕ, Some}
use Rattle.cn_collisions.proofs.WayLemmas.{Dead}
use Rattle.cn_collisions.proofs.endings.other_ending.Given as goal

-- no process so far leads into the set
abbrev pub invariant-loop-process : goal.invariant-loop-process
invariant-loop-process l = (p : ℕ) → l.fn.low ≤ p → p < l.process
    → Dead l.view.sets.now.table.now l.view.raw.now l.view.process l.target 1 l.fn.low l.fn.high l.used l.state.0 (Some l.response) p
