use Rattle.std.proofs.Common.{◌≡◌, ℕ, ◌<◌, ◌≤◌, ◌↔◌, ◌⊎◌, get_or, length}
use Rattle.cn_table.specs.TypeTable.{transition}
use Rattle.cn_stock_check.specs.Sets.{IsIn}
use Rattle.cn_stock_check.proofs.seen.add_after.Given as goal

-- those of the responses so far are added
abbrev pub invariant-loop-response : goal.invariant-loop-response
invariant-loop-response l = record {
  long : length l.pairs ≡ 16;
  done : (r : ℕ) → r < l.response → (q : ℕ) → IsIn (get_or l.pairs r 0) q
      ↔ (IsIn (get_or l.initial.pairs r 0) q ⊎ ((p : ℕ) × (p < length l.table.states) × IsIn (get_or l.from r 0) p × ((transition l.table l.operation.0 p).1 ≡ q)));
  rest : (r : ℕ) → l.response ≤ r → get_or l.pairs r 0 ≡ get_or l.initial.pairs r 0;
}
