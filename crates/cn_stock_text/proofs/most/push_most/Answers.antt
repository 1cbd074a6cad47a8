use Rattle.cn_stock_text.proofs.most.push_most.Goals as goal

pub returns : goal.returns
returns c = rw (c.in-Some.is, c.in-Some-most.is, ← c.as_slice.ensures.value) c.push_joins_text.ensures
