use Rattle.cn_unread_laws.proofs.Collecting.{visible_solves}
use Rattle.cn_unread_laws.proofs.laws.collects_are_enough.Goals as goal

pub returns : goal.returns
returns c = visible_solves (record {
  canonical = c.coverage.ensures;
  telling = c.telling_nodes_are_enough.ensures;
})
