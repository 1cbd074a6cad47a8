use Rattle.std.proofs.Common.{inr}
use Rattle.cnum.proofs.shortest_runs.run_shortest.Goals as goal

pub returns : goal.returns
returns g c =
    inr (
      c.in_ok-inputs.inputs,
      c.in_ok-inputs.ensures,
      inr (
        c.in_ok-schedule.schedule,
        c.in_ok-schedule.ensures,
        record {
          table = c.text_of-table.result;
          after = c.agree_shortest-end.new.table;
          text = c.text_of-table.ensures;
          read = c.agree_shortest-end.ensures.read;
          order = c.agree_shortest-end.ensures.order;
          reported = rw c.noting_table.ensures c.agree_shortest-end.ensures.agreed;
        },
      ),
    )
