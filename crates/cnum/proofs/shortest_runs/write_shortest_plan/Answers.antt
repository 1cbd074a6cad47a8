use Rattle.cnum.proofs.shortest_runs.write_shortest_plan.Goals as goal

pub returns-in-None : goal.returns-in-None
returns-in-None g c = rw c.in-None.is (record {
  after = c.show_shortest.new.table;
  read = c.show_shortest.ensures.read;
  reported = c.show_shortest.ensures.shown;
})

pub returns-in-Some : goal.returns-in-Some
returns-in-Some g c = rw c.in-Some.is (record {
  after = c.show_shortest_object.new.table;
  object = c.file_text-object.result;
  object_after = c.show_shortest_object.new.object;
  opened = c.file_text-object.ensures;
  read = c.show_shortest_object.ensures.read;
  reported = c.show_shortest_object.ensures.shown;
})
