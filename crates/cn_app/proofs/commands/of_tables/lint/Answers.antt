use Rattle.std.proofs.Common.{inr, subst, List, ℕ}
use Rattle.cn_app.specs.Commands.Lint.{HasLintReport, IsLintReport}
use Rattle.cn_app.proofs.CommandLemmas.Reports.{reported}
use Rattle.cn_app.proofs.commands.of_tables.lint.Goals as goal

pub returns-clause-linted : goal.returns-clause-linted
returns-clause-linted g c =
    reported g.W.Write.contents (λ r. HasLintReport c.fill.new.self c.args.form r) c.args.output.now c.report.new.self c.lint_report.result c.report.result
    (inr (c.in_ok-fill.field-0, c.in_ok-fill.ensures.ended, subst (λ (l : List ℕ). IsLintReport c.args.form l c.lint_report.result) c.deref.ensures.value c.lint_report.ensures)) c.report.ensures
