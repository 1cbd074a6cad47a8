use Rattle.std.proofs.Common.{◌<◌, ℕ}
use Rattle.std.specs.Prelude.{slice_index}
use Rattle.cn_signs.specs.SignChecks.{LeadsOut}
use Rattle.cn_signs.proofs.ends.all_lead_out.Given as goal

-- each operation so far does
abbrev pub invariant-loop-number : goal.invariant-loop-number
invariant-loop-number l = (i : ℕ) → i < l.number-index → LeadsOut l.table l.rows l.set (slice_index l.operations i) l.state.0
