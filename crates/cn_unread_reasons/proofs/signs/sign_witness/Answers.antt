use Rattle.cn_unread_reasons.proofs.SignsTold.{once_in_order}
use Rattle.cn_unread_reasons.proofs.signs.sign_witness.Goals as goal

pub returns-clause-witness : goal.returns-clause-witness
returns-clause-witness c = record {
  choice = c.requires;
  signs = c.in_ok-signs.ensures.signs;
  order = c.in_ok-signs.ensures.order;
  once = once_in_order c.args.choice.further.items c.in_ok-signs.signs.items c.in_ok-signs.ensures.order;
}
