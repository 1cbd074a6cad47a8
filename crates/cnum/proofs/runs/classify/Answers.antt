use Rattle.cnum.proofs.runs.classify.Goals as goal

pub returns : goal.returns
returns g c = (c.as_mut_slice-tables.result.now, c.classify_each.new.tables, rw c.as_mut_slice-tables.ensures.value c.in_ok-tables.ensures, c.classify_each.ensures)
