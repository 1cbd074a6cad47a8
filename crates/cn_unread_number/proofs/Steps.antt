-- Further operations that tell make a node.
use Rattle.std.proofs.Common.{ℕ, length}
use Rattle.cn_table.specs.TypeTable.{TypeTable}
use Rattle.cn_choice.specs.Canonical.{raw_choice_of}
use Rattle.cn_further.specs.FurtherNodes.{TellsFirst, further_node, further_of}
use Rattle.cn_further.specs.declared.further.Further.{Further}
use Rattle.cn_unread.specs.Enough.{HasNodeFor}

pub node_for : (t : TypeTable) (n : ℕ) (further : Further)
    → TellsFirst t n further.choice further.follow_ups.items → HasNodeFor t n
node_for t n further tells = (
  length further.choice.a,
  length further.choice.b,
  further_node (raw_choice_of further.choice) (further_of further.follow_ups.items) tells.told,
  tells.choice.someone_in_a,
  tells.choice.someone_in_b,
  tells.choice.all,
  tells.node,
)
