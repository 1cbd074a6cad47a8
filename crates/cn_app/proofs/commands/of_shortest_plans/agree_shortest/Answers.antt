use Rattle.std.proofs.Common.{inl, inr, refl}
use Rattle.std.proofs.lemmas.Result.{err_from_is_err_and}
use Rattle.cn_app.specs.Commands.AgreeShortest.{HasAgreeShortestReport}
use Rattle.cn_app.proofs.CommandLemmas.Lists.{shortest_as}
use Rattle.cn_app.proofs.CommandLemmas.Reports.{reported, silent}
use Rattle.cn_app.proofs.commands.of_shortest_plans.agree_shortest.Goals as goal

pub returns-in_err-table-clause-agreed : goal.returns-in_err-table-clause-agreed
returns-in_err-table-clause-agreed g c =
    let p = err_from_is_err_and c.from_residual-in_err-table.result c.from_residual-in_err-table.ensures.1 in
    rw (p.1, p.2) (inl (c.in_err-table.field-0.0, inr (c.in_ok-lists.lists, c.in_ok-lists.ensures, inl (c.in_err-table.field-0.0, c.in_err-table.ensures.table, refl)), refl, silent c.args.output.now))

pub returns-clause-agreed : goal.returns-clause-agreed
returns-clause-agreed g c =
    reported g.W.Write.contents (HasAgreeShortestReport c.read_table.new.text c.args.inputs.now c.args.schedule.now c.args.plan c.args.asked) c.args.output.now c.report.new.self
    c.agree_shortest_report.result c.report.result
    (inr (
      c.in_ok-lists.lists,
      c.in_ok-lists.ensures,
      inr (
        c.in_ok-table.table,
        c.in_ok-table.ensures.table,
        shortest_as c.in_ok-table.table c.args.plan _ _ _ _ c.args.asked c.agree_shortest_report.result c.deref.ensures.value c.deref-2.ensures.value c.agree_shortest_report.ensures,
      ),
    )) c.report.ensures
