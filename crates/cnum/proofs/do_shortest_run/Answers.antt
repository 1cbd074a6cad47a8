use Rattle.cnum.proofs.do_shortest_run.Goals as goal

pub returns : goal.returns
returns g c = (c.run_shortest-end.result, c.run_shortest-end.ensures, c.command_exit.ensures)
