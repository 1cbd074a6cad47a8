use Rattle.std.proofs.Common.{inl, inr, refl}
use Rattle.std.proofs.lemmas.Result.{err_from_is_err_and}
use Rattle.cn_app.specs.Commands.ShowShortest.{HasShowShortestObjectReport}
use Rattle.cn_app.proofs.CommandLemmas.Reports.{reported, silent}
use Rattle.cn_app.proofs.commands.of_objects.show_shortest_object.Goals as goal

pub returns-in_err-object-clause-shown : goal.returns-in_err-object-clause-shown
returns-in_err-object-clause-shown g c =
    let p = err_from_is_err_and c.from_residual-in_err-object.result c.from_residual-in_err-object.ensures.1 in
    rw (p.1, p.2) (inl (
      c.in_err-object.field-0.0,
      inr (c.in_ok-table.table, c.in_ok-table.ensures.table, inl (c.in_err-object.field-0.0, c.in_err-object.ensures.object, refl)),
      refl,
      silent c.args.output.now,
    ))

pub returns-clause-shown : goal.returns-clause-shown
returns-clause-shown g c =
    reported g.W.Write.contents
    (HasShowShortestObjectReport c.read_table.new.text c.read_object.new.text c.args.start.now c.args.asked c.args.style.now)
    c.args.output.now c.report.new.self c.show_shortest_object_report-report.result c.report.result
    (inr (
      c.in_ok-table.table,
      c.in_ok-table.ensures.table,
      inr (c.in_ok-object.object, c.in_ok-object.ensures.object, c.show_shortest_object_report-report.ensures),
    )) c.report.ensures
