use Rattle.cnum.proofs.do_shortest_plan.Goals as goal

pub returns : goal.returns
returns g c = (c.show_shortest-end.result, c.show_shortest-end.ensures, c.command_exit.ensures)
