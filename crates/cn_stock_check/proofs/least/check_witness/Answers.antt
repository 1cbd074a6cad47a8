use Rattle.cn_stock_check.proofs.least.check_witness.Goals as goal

pub returns-clause-witness : goal.returns-clause-witness
returns-clause-witness c = c.in_ok-tells.ensures.0 c.if-not-tells.false
