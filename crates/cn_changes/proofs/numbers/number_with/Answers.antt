use Rattle.std.proofs.Common.{subst}
use Rattle.std.specs.Prelude.{IfOk}
use Rattle.cn_table.specs.TypeTable.{TypeTable}
use Rattle.cn_changes.specs.Kinds.{HasNumberOf}
use Rattle.cn_changes.proofs.numbers.number_with.Goals as goal

pub returns : goal.returns
returns g c =
    subst (λ (t : TypeTable). IfOk c.number_of.result (HasNumberOf c.args.kind t)) c.in_ok-changed.ensures c.number_of.ensures
