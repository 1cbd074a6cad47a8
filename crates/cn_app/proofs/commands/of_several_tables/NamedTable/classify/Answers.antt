use Rattle.std.proofs.Common.{inr, refl}
use Rattle.cn_app.proofs.commands.of_several_tables.NamedTable.classify.Goals as goal

pub returns-in-Ok : goal.returns-in-Ok
returns-in-Ok g c = record {
  name = refl;
  read = c.written_report.ensures.read;
  order = c.written_report.ensures.order;
  classified = inr (c.in-Ok.report, c.in-Ok.ensures.written.0, c.in-Ok.ensures.written.1);
  line = c.in-Ok.ensures.written.1.1.bytes;
}

pub returns-in-Err : goal.returns-in-Err
returns-in-Err g c = record {
  name = refl;
  read = c.written_report.ensures.read;
  order = c.written_report.ensures.order;
  classified = c.in-Err.ensures.written;
  line = refl;
}
