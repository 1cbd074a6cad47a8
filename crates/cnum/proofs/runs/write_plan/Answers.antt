use Rattle.std.proofs.Common.{inr}
use Rattle.cnum.proofs.runs.write_plan.Goals as goal

pub returns-in-None : goal.returns-in-None
returns-in-None g c = rw c.in-None.is (record {
  table_after = c.show.new.table;
  certificate_after = c.show.new.certificate;
  read = c.show.ensures.read;
  order = inr tt;
  reported = c.show.ensures.shown;
})

pub returns-in-Some : goal.returns-in-Some
returns-in-Some g c = rw c.in-Some.is (record {
  table_after = c.show_object.new.table;
  certificate_after = c.show_object.new.certificate;
  object = c.file_text-object.result;
  object_after = c.show_object.new.object;
  opened = c.file_text-object.ensures;
  read = c.show_object.ensures.read;
  reported = c.show_object.ensures.shown;
})
