use Rattle.std.proofs.Common.{inr}
use Rattle.cnum.proofs.shortest_runs.show_shortest.Goals as goal

pub returns : goal.returns
returns g c =
    inr (
      c.in_ok-style.style,
      c.in_ok-style.ensures,
      (c.text_of-table.result, c.text_of-table.ensures, rw c.noting_table.ensures c.write_shortest_plan-end.ensures),
    )
