use Rattle.std.proofs.Common.{◌≡◌, ℕ, ◌<◌, ◌↔◌, ◌⊎◌, get_or, length}
use Rattle.cn_table.specs.TypeTable.{transition}
use Rattle.cn_stock_check.specs.Sets.{IsIn}
use Rattle.cn_stock_check.proofs.seen.add_answers.Given as goal

-- the pairs from the states so far are added
abbrev pub invariant-loop-state : goal.invariant-loop-state
invariant-loop-state l = record {
  long : length l.pairs ≡ 16;
  pairs : (r q : ℕ) → IsIn (get_or l.pairs r 0) q
      ↔ (IsIn (get_or l.initial.pairs r 0) q ⊎ ((p : ℕ) × (p < l.state) × IsIn l.states p × ◌≡◌ {A = ℕ × ℕ} (transition l.table l.operation.0 p) (r, q)));
}
