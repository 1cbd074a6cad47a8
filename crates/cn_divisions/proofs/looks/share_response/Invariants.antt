use Rattle.std.proofs.Common.{◌<◌, ℕ}
use Rattle.std.specs.Prelude.{IsBitSet}
use Rattle.cn_stocks.specs.Pairs.{Has}
use Rattle.cn_divisions.proofs.looks.share_response.Given as goal

-- none of the responses so far is in a pair of both
abbrev pub invariant-loop-response : goal.invariant-loop-response
invariant-loop-response l = (r p q : ℕ) → r < l.response → Has l.a r p → Has l.b r q → IsBitSet l.fn.states p → IsBitSet l.fn.states q → ⊥
