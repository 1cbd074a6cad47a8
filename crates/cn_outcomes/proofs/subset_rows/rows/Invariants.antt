use Rattle.cn_outcomes.specs.RowSettings.{HasRows}
use Rattle.cn_outcomes.proofs.subset_rows.rows.Given as goal

abbrev pub invariant-loop-number : goal.invariant-loop-number
invariant-loop-number l = HasRows l.setting l.number l.rows
