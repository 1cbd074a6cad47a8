use Rattle.std.proofs.Common.{inr}
use Rattle.cnum.proofs.runs.agree.Goals as goal

pub returns : goal.returns
returns g c =
    inr (
      c.in_ok-inputs.inputs,
      c.in_ok-inputs.ensures,
      inr (
        c.in_ok-schedule.schedule,
        c.in_ok-schedule.ensures,
        record {
          table_after = c.agree-end.new.table;
          certificate_after = c.agree-end.new.certificate;
          read = c.agree-end.ensures.read;
          order = c.agree-end.ensures.order;
          reported = rw c.noting_both.ensures c.agree-end.ensures.agreed;
        },
      ),
    )
