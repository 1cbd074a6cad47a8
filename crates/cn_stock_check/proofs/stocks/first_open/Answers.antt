use Rattle.std.proofs.Common.{◌∙◌, arith, below_more, sym, true≢false}
use Rattle.cn_stock_check.proofs.stocks.first_open.Goals as goal

pub returns-then-not-all-clause-left : goal.returns-then-not-all-clause-left
returns-then-not-all-clause-left c = (
  omega (arith, c.loop-start-test.true, c.loop-start.auto.start-end, c.states-start-end.ensures.number),
  λ h. true≢false (sym (c.in_ok-all.ensures.1 h) ∙ c.if-not-all.true),
)

pub loop-start-preserved : goal.loop-start-preserved
loop-start-preserved c = below_more _ _ c.loop-start.invariant (c.in_ok-all.ensures.0 c.if-not-all.false)

pub returns-clause-none : goal.returns-clause-none
returns-clause-none c = λ start l stock known long must.
    c.loop-start.invariant start (omega (arith, l, c.loop-start-test.false, c.states-start-end.ensures.number)) stock known long must
