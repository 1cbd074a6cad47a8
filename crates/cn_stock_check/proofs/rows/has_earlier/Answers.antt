use Rattle.std.proofs.Common.{arith, sym, true≢false}
use Rattle.cn_stock_check.proofs.rows.has_earlier.Goals as goal

pub returns : goal.returns
returns c stock has = (
  λ h. absurd (true≢false (sym h)),
  λ h. absurd (c.loop-earlier.invariant h.0 (omega (arith, h.1, c.loop-earlier-test.false)) (let e = has h.0 in omega (arith, e, h.2)) h.3),
)
