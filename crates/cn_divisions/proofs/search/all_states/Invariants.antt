use Rattle.std.proofs.Common.{ℕ, ◌<◌}
use Rattle.std.specs.Prelude.{IsBitSet}
use Rattle.cn_stocks.specs.Each.{EachAt}
use Rattle.cn_divisions.proofs.search.all_states.Given as goal

abbrev pub invariant-loop-place : goal.invariant-loop-place
invariant-loop-place l = EachAt (λ i set. (q : ℕ) → q < 16 → IsBitSet set q) l._place l.sets.items
