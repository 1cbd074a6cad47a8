use Rattle.std.proofs.Common.{◌<◌, ℕ, length}
use Rattle.cn_stocks.specs.Pairs.{Has}
use Rattle.cn_join_find.proofs.meeting.common_pair.Given as goal

-- no pair with a response so far is in both sets
abbrev pub invariant-loop-response : goal.invariant-loop-response
invariant-loop-response l = (r q : ℕ) → r < l.response → q < length l.table.states → Has l.a r q → ¬ Has l.b r q
