use Rattle.std.proofs.Common.{refl, subst, sym}
use Rattle.cn_table.specs.TypeTable.{TypeTable}
use Rattle.cn_changes.specs.Changes.{IsChange, with_change}
use Rattle.cn_changes.specs.Kinds.{HasNumberOf}
use Rattle.cn_changes.proofs.Known.{still_known}
use Rattle.cn_changes.proofs.pairs.number_with_both.Goals as goal

pub number_with-requires-after_bounds : goal.number_with-requires-after_bounds
number_with-requires-after_bounds g c = λ _ _.
    subst (λ (t : TypeTable). IsChange t c.args.pair.second) (sym c.in_ok-changed.ensures) (still_known c.args.table.now c.args.pair.first c.args.pair.second c.requires.1)

pub returns : goal.returns
returns g c = (
  refl,
  subst (λ (t : TypeTable). HasNumberOf c.args.kind (with_change t c.args.pair.second) c.in_ok-number.number) c.in_ok-changed.ensures c.in_ok-number.ensures,
)
