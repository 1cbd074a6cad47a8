use Rattle.std.proofs.Common.{inr}
use Rattle.cnum.proofs.runs.show.Goals as goal

pub returns : goal.returns
returns g c = inr (c.in_ok-style.style, c.in_ok-style.ensures, rw c.noting_table.ensures c.write_plan-written.ensures)
