use Rattle.std.proofs.Common.{◌<◌, ◌↔◌, ℕ, get_or}
use Rattle.std.specs.Prelude.{IsBitSet}
use Rattle.cn_stocks.proofs.search.Search.starts_of_some.Given as goal

-- the states of the stocks so far
abbrev pub invariant-loop-starts : goal.invariant-loop-starts
invariant-loop-starts l = (q : ℕ) → IsBitSet l.set q ↔ ((i : ℕ) × (i < l.starts-index) × IsBitSet (get_or l.self.starts.items i 0) q)
