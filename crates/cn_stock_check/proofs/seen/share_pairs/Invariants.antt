use Rattle.std.proofs.Common.{ℕ, ◌<◌, get_or}
use Rattle.cn_stock_check.specs.Sets.{IsIn}
use Rattle.cn_stock_check.proofs.seen.share_pairs.Given as goal

-- they have none in common of the responses so far
abbrev pub invariant-loop-response : goal.invariant-loop-response
invariant-loop-response l = (r : ℕ) → r < l.response → (q : ℕ) → IsIn (get_or l.pairs r 0) q → ¬ IsIn (get_or l.others r 0) q
