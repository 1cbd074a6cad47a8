use Rattle.cnum.proofs.lives_run.show_recoverable.Goals as goal

pub returns : goal.returns
returns g c = record {
  table = c.text_of-table.result;
  after = c.show_recoverable-end.new.table;
  text = c.text_of-table.ensures;
  read = c.show_recoverable-end.ensures.read;
  reported = rw c.noting_table.ensures c.show_recoverable-end.ensures.shown;
}
