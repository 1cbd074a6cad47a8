use Rattle.std.proofs.Common.{◌∙◌, arith, below_more, sym, true≢false}
use Rattle.cn_stock_check.proofs.evidence.first_noticing.Goals as goal

pub loop-operation-preserved : goal.loop-operation-preserved
loop-operation-preserved c =
    below_more _ _ c.loop-operation.invariant (λ h. true≢false (sym (c.notices_somewhere.ensures.1 h.1) ∙ c.if-notices_somewhere.false))

pub returns-clause-none : goal.returns-clause-none
returns-clause-none c = λ h.
    c.loop-operation.invariant h.2.0 (omega (arith, h.2.1, c.operations-operation-end.ensures.number, c.loop-operation-test.false)) (h.2.1, (h.0, h.1, h.2.2))
