use Rattle.cn_stock_check.proofs.PartLemmas.{one_label}
use Rattle.cn_stock_check.proofs.parts.are_connected.Goals as goal

pub returns : goal.returns
returns c =
    let same = one_label c.args.needs.now c.args.counts.now c.parts.result c.told-counts c.parts.ensures in
    ((λ y. same.0 (c.have_one_label.ensures.0 y)), (λ h. c.have_one_label.ensures.1 (same.1 h)))
