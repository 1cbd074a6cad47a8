use Rattle.std.proofs.Common.{subst}
use Rattle.std.specs.Prelude.{IfOk}
use Rattle.cn_table.specs.TypeTable.{TypeTable}
use Rattle.cn_search.specs.Numbers.{HasNumber}
use Rattle.cn_pairs.proofs.restricted.number_with.Goals as goal

pub returns : goal.returns
returns g c =
    subst (λ (t : TypeTable). IfOk c.consensus_number.result (HasNumber t)) c.in_ok-restricted.ensures c.consensus_number.ensures
