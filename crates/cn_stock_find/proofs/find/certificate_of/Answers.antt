use Rattle.std.proofs.Common.{Some, ap, ◌∙◌}
use Rattle.cn_stock_find.proofs.FindLemmas.{certificate_for}
use Rattle.cn_stock_find.proofs.find.certificate_of.Goals as goal

pub returns : goal.returns
returns g c =
    certificate_for c.args.table.now c.args.limit c.args.number c.requires.some c.requires.small c.requires.number _ (ap Some c.least_of-at_least.ensures) c.most_of-at_most.ensures
    c.in_ok-least.ensures c.in_ok-most.ensures (c.in_ok-type_name.ensures.ok ∙ c.name.ensures.value)
