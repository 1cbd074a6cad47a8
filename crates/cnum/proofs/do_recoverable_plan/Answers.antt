use Rattle.cnum.proofs.do_recoverable_plan.Goals as goal

pub returns : goal.returns
returns g c = (c.show_recoverable-end.result, c.show_recoverable-end.ensures, c.command_exit.ensures)
