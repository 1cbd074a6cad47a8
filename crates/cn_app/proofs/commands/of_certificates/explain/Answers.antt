use Rattle.std.proofs.Common.{inr, subst}
use Rattle.cn_app.specs.Commands.Explain.{HasExplainReport, IsExplainReport}
use Rattle.cn_form.specs.declared.answer_form.DocumentForm.{DocumentForm}
use Rattle.cn_app.proofs.CommandLemmas.Reports.{reported}
use Rattle.cn_app.proofs.commands.of_certificates.explain.Goals as goal

pub returns-clause-explained : goal.returns-clause-explained
returns-clause-explained g c =
    let told = subst (λ (form : DocumentForm). IsExplainReport c.in_ok-checked.checked c.args.all form c.explain_report.result) c.of_document.ensures c.explain_report.ensures in
    reported g.W.Write.contents (λ r. HasExplainReport c.read_checked.new.table c.read_checked.new.certificate c.args.all c.args.form r) c.args.output.now c.report.new.self
    c.explain_report.result c.report.result
    (inr (c.in_ok-checked.checked, c.in_ok-checked.ensures.checked, told)) c.report.ensures
