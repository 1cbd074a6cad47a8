use Rattle.std.proofs.Common.{◌≡◌, ◌<◌, ℕ, get_or}
use Rattle.cn_telling.proofs.search.Search.some_tells.Given as goal

-- the stocks so far have it from no state
abbrev pub invariant-loop-starts : goal.invariant-loop-starts
invariant-loop-starts l = (i : ℕ) → i < l.starts-index → get_or l.self.starts.items i 0 ≡ 0
