use Rattle.cn_app.specs.Commands.Classify.{HasClassReport}
use Rattle.cn_app.proofs.CommandLemmas.Reports.{reported}
use Rattle.cn_app.proofs.commands.of_tables.classify.Goals as goal

pub returns-clause-classified : goal.returns-clause-classified
returns-clause-classified g c =
    reported g.W.Write.contents (HasClassReport c.class_report_of.new.table c.args.asked) c.args.output.now c.report.new.self c.class_report_of.result c.report.result
    c.class_report_of.ensures.reported c.report.ensures
