use Rattle.std.proofs.Common.{inr}
use Rattle.cnum.proofs.lives_run.run_lives.Goals as goal

pub returns : goal.returns
returns g c =
    inr (
      c.in_ok-inputs.inputs,
      c.in_ok-inputs.ensures,
      inr (
        c.in_ok-schedule.schedule,
        c.in_ok-schedule.ensures,
        record {
          table = c.text_of-table.result;
          after = c.agree_recoverably-end.new.table;
          text = c.text_of-table.ensures;
          read = c.agree_recoverably-end.ensures.read;
          order = c.agree_recoverably-end.ensures.order;
          reported = rw c.noting_table.ensures c.agree_recoverably-end.ensures.agreed;
        },
      ),
    )
