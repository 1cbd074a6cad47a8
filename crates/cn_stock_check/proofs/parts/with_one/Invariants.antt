use Rattle.std.proofs.Common.{◌≡◌, ℕ, ◌<◌, ◌≤◌, get_or, length}
use Rattle.cn_stock_check.proofs.PartLemmas.{relabel}
use Rattle.cn_stock_check.proofs.parts.with_one.Given as goal

-- the labels so far are changed, and the others are not
abbrev pub invariant-loop-operation : goal.invariant-loop-operation
invariant-loop-operation l = record {
  long : length l.merged ≡ 8;
  done : (o : ℕ) → o < l.operation → get_or l.merged o 0 ≡ relabel l.keep l.drop (get_or l.fn.labels o 0);
  rest : (o : ℕ) → l.operation ≤ o → get_or l.merged o 0 ≡ get_or l.fn.labels o 0;
}
