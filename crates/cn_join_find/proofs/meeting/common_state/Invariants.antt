use Rattle.std.proofs.Common.{◌<◌, ℕ}
use Rattle.cn_stocks.specs.Pairs.{Has}
use Rattle.cn_join_find.proofs.meeting.common_state.Given as goal

-- no state so far is in both sets
abbrev pub invariant-loop-state : goal.invariant-loop-state
invariant-loop-state l = (q : ℕ) → q < l.state → Has l.a l.fn.response q → ¬ Has l.b l.fn.response q
