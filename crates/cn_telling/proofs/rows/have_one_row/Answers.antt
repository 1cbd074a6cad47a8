use Rattle.std.proofs.Common.{arith, refl}
use Rattle.cn_telling.proofs.RowLemmas.{one_row_from}
use Rattle.cn_telling.proofs.rows.have_one_row.Goals as goal

pub returns : goal.returns
returns c = (
  λ h. one_row_from c.args.table.now c.states-state-end.ensures.table c.args.one.0 c.args.other.0 c.requires.one c.requires.other
      (λ q l. c.loop-state.invariant q (omega (arith, l, c.loop-state-test.false, c.states-state-end.ensures.number))),
  λ h. refl,
)
