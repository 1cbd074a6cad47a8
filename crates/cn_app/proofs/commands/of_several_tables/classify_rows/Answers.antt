use Rattle.std.proofs.Common.{inl, inr, refl, subst, Result}
use Rattle.cn_app.specs.Commands.Classify.{IsHeadReport}
use Rattle.cn_io.specs.Streams.Writing.{Reports}
use Rattle.cn_io.specs.declared.fault.AppFault.{AppFault}
use Rattle.cn_io.specs.declared.report.Outcome.{Outcome}
use Rattle.cn_app.proofs.CommandLemmas.Reports.{reported}
use Rattle.cn_app.proofs.CommandLemmas.SeveralTables.{writable_after_line}
use Rattle.cn_app.proofs.commands.of_several_tables.classify_rows.Goals as goal

pub classify_tables-requires-clause-output : goal.classify_tables-requires-clause-output
classify_tables-requires-clause-output g c κs within =
    let headed = reported g.W.Write.contents (IsHeadReport c.args.asked) c.args.output.now c.report.new.self c.head_report.result c.report.result c.head_report.ensures c.report.ensures in
    writable_after_line g.W.Write.contents (IsHeadReport c.args.asked) c.args.output.now c.report.new.self c.report.result c.in-Ok.field-0 c.in-Ok.is headed

pub returns-in-Ok : goal.returns-in-Ok
returns-in-Ok g c =
    let headed = reported g.W.Write.contents (IsHeadReport c.args.asked) c.args.output.now c.report.new.self c.head_report.result c.report.result c.head_report.ensures c.report.ensures in
    inl (
      c.report.new.self,
      c.in-Ok.field-0,
      subst (λ (q : Result Outcome AppFault). Reports g.W.Write.contents (IsHeadReport c.args.asked) c.args.output.now c.report.new.self q) c.in-Ok.is headed,
      c.classify_tables.ensures,
    )

pub returns-in-Err : goal.returns-in-Err
returns-in-Err g c =
    let headed = reported g.W.Write.contents (IsHeadReport c.args.asked) c.args.output.now c.report.new.self c.head_report.result c.report.result c.head_report.ensures c.report.ensures in
    inr (
      c.in-Err.fault,
      subst (λ (q : Result Outcome AppFault). Reports g.W.Write.contents (IsHeadReport c.args.asked) c.args.output.now c.report.new.self q) c.in-Err.is headed,
      c.tell.ensures,
      refl,
      refl,
    )
