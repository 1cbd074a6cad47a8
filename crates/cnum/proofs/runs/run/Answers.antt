use Rattle.cnum.proofs.runs.run.Goals as goal

pub returns-in-None : goal.returns-in-None
returns-in-None g c = (
  c.text_of-table.result,
  c.text_of-table.ensures,
  rw c.noting_table.ensures (c.run_on_table-end.ensures c.args.stdin),
)

pub returns-in-Some : goal.returns-in-Some
returns-in-Some g c = (c.text_of-table.result, c.text_of-table.ensures, c.run_on_both.ensures)
