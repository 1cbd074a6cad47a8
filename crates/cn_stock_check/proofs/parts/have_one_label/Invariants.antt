use Rattle.std.proofs.Common.{◌≡◌, ℕ, ◌<◌, ◌≤◌, get_or, MatchOption}
use Rattle.cn_stock_check.proofs.parts.have_one_label.Given as goal

-- none of the operations so far is there, or those that are have the label
abbrev pub invariant-loop-operation : goal.invariant-loop-operation
invariant-loop-operation l = MatchOption l.found ((o : ℕ) → o < l.operation → get_or l.counts o 0 ≡ 0)
    (λ label. record {
      some : (f : ℕ) × (1 ≤ get_or l.counts f 0) × (get_or l.labels f 0 ≡ label);
      all : (o : ℕ) → o < l.operation → 1 ≤ get_or l.counts o 0 → get_or l.labels o 0 ≡ label;
    })
